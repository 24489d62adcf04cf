-- An object that is asked for is there.
use Rattle.std.specs.Borrow.{Bor}
use Rattle.std.specs.Option.{option_copied}
use Rattle.std.proofs.Common.{◌≡◌, sym, ap, true, Option, Some, None, is_some, option_map}
use Rattle.std.proofs.lemmas.Bool.{false≢true}
use Rattle.gem_object.specs.declared.object.Object.{Object}
use Rattle.running_objects.specs.gem_image.Image.{Contents, contents_of}

pub there_by : (found : Option (Bor Object)) (held : Option Contents) → option_map contents_of (option_copied found) ≡ held
    → is_some found ≡ true → is_some held ≡ true
there_by None held is some = absurd (false≢true some)
there_by (Some object) held is some = ap is_some (sym is)
