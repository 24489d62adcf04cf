-- What a queue stands for.
use Rattle.std.specs.Prelude.{ℕ, List}

-- how often its front was removed, and its items from the front on
pub record Contents (T : Type 0) : Type 0 where
  pub removed : ℕ
  pub items : List T
