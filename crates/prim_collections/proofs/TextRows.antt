-- What bytes and characters that were seen say of bodies and values.
use Rattle.std.proofs.Common.{◌≡◌, sym, subst, ℕ, List, Some, Result, Ok, slice_set}
use Rattle.gem_object.specs.Edits.{with_byte}
use Rattle.gem_object.specs.declared.value.Value.{Value}
use Rattle.gem_object.specs.declared.value.Value.TheVariants as value
use Rattle.gem_object.specs.declared.body.Body.{Body}
use Rattle.gem_object.specs.declared.body.Body.TheVariants.{Plain, Bytes, Dict, Class, Segment, User, Counter, Bag, RcDict, Queue}
use Rattle.gem_sound.specs.gem_image.Image.{Contents}
use Rattle.object_programs.specs.Run.{give}
use Rattle.object_programs.specs.Programs.{need, replace_body}
use Rattle.object_programs.specs.declared.fault.Fault.TheVariants as fault
use Rattle.prim_rules.specs.Parts.{bytes_in, character_in}
use Rattle.running_objects.specs.Seen.{Seen}
use Rattle.running_objects.specs.declared.stop.Stop.{Stop}
use Rattle.prim_parts.specs.Does.{Does, Computes}
use Rattle.prim_parts.proofs.Does.{does_give, does_compute}
use Rattle.prim_collections.proofs.Rows.{needed}

bytes_are : (body : Body) (bytes : List ℕ) → bytes_in body ≡ Some bytes → body ≡ Bytes bytes
bytes_are (Plain values) bytes is = cc
bytes_are (Bytes held) bytes is = cc
bytes_are (Dict pairs) bytes is = cc
bytes_are (Class class) bytes is = cc
bytes_are (Segment rights) bytes is = cc
bytes_are (User user) bytes is = cc
bytes_are (Counter counter) bytes is = cc
bytes_are (Bag bag) bytes is = cc
bytes_are (RcDict pairs) bytes is = cc
bytes_are (Queue queue) bytes is = cc

character_is : (one : Value) (code : ℕ) → character_in one ≡ Some code → one ≡ value.Char code
character_is value.Nil code is = cc
character_is value.False code is = cc
character_is value.True code is = cc
character_is (value.Int number) code is = cc
character_is (value.Char other) code is = cc
character_is (value.Sym name) code is = cc
character_is (value.Ref oid) code is = cc
character_is (value.Block block) code is = cc

-- a byte that was put in the bytes that were seen
pub byte_put : (object : Contents) (name place code : ℕ) {bytes : List ℕ} {seen before after : Seen} {result : Result
    (Unit {0}) Stop}
    → Does (need fault.ArgumentKind (bytes_in object.body)) seen (Ok bytes) seen
    → Does (replace_body 0 name object (with_byte place code object.body)) before result after
    → Does (replace_body 0 name object (Bytes (slice_set bytes place code))) before result after
byte_put object name place code {bytes} {seen} {before} {after} {result} looks does =
    let At : Body → Type 0 = λ body. Does (replace_body 0 name object (with_byte place code body)) before result after in
    subst At (bytes_are object.body bytes (needed fault.ArgumentKind (bytes_in object.body) looks)) does

-- the character that was asked for is the value
pub character_given : {one : Value} {code : ℕ} (seen : Seen) → Computes (need fault.ArgumentKind (character_in one)) (Ok code)
    → Does (give one) seen (Ok (value.Char code)) seen
character_given {one} {code} seen computes =
    let At : Value → Type 0 = λ given. Does (give given) seen (Ok (value.Char code)) seen in
    subst At (sym (character_is one code (needed fault.ArgumentKind (character_in one) (does_compute seen computes))))
    (does_give (value.Char code) seen)
