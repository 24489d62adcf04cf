-- Keys of globals.
use Rattle.std.specs.Prelude.{◌≡◌}
use Rattle.gem_object.specs.texts.Bytes.{Bytes as Text}
use Rattle.gem_object.specs.declared.value.Value.{Value}
use Rattle.gem_object.specs.declared.value.Value.TheVariants.{Sym}

-- what holds of the symbol that a key is
abbrev pub OfSymbol : (key : Value) → (Text → Type 0) → Type 0
OfSymbol key holds = (name : Text) → key ≡ Sym name → holds name
