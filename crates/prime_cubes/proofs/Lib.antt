mod Freeing
mod Tables
