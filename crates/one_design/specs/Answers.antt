-- What it means that there is one answer.
use Rattle.std.specs.Prelude.{◌≡◌}

-- two values that are an answer are equal, and beside one of them nothing is refused but for want of memory
pub record IsOneAnswer {A E : Type 0} (Is : A → Type 0) (Refuses : E → Type 0) (memory : E) : Type 0 where
  pub same : (x y : A) → Is x → Is y → y ≡ x
  pub only : (x : A) (fault : E) → Is x → Refuses fault → fault ≡ memory
