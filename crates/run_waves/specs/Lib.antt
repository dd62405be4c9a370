pub mod RunWaves
