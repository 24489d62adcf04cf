-- Errors as text.
use Rattle.std.specs.Prelude.{ℕ, List, codes}
use Rattle.st_encoder.specs.declared.error.EncodeError.{EncodeError}
use Rattle.st_encoder.specs.declared.error.EncodeError.TheVariants.{TooLarge, NoMemory}

abbrev pub error_text : EncodeError → List ℕ
error_text TooLarge = codes "code too large"
error_text NoMemory = codes "out of memory"
