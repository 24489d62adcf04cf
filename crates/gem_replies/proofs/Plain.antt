-- The bytes of a name are shown as they are.
use Rattle.std.proofs.Common.{◌≡◌, ℕ, Bool, true, false, ◌==◌, ◌||◌, ◌&&◌, nat_lt, if◌then◌else◌, [], ◌∷◌, ◌++◌, refl, sym, ap₂, codes, true≢false, arith}
use Rattle.std.proofs.lemmas.Bool.Decides.{nat_tests}
use Rattle.std.specs.List.{list_all}
use Rattle.gem_object.specs.texts.Bytes.{Bytes}
use Rattle.gem_object.specs.texts.NameBytes.{is_name_byte}
use Rattle.gem_replies.specs.Escapes.{two_digits, escape, escaped}

-- the tests that `escape` makes fail for a name's byte
no_line_feed : (byte : ℕ) → is_name_byte byte ≡ true → (byte == 10) ≡ false
no_line_feed byte e = grind (arith, nat_tests)

no_backslash : (byte : ℕ) → is_name_byte byte ≡ true → (byte == 92) ≡ false
no_backslash byte e = grind (arith, nat_tests)

no_control : (byte : ℕ) → is_name_byte byte ≡ true → (nat_lt byte 32 || byte == 127) ≡ false
no_control byte e = grind (arith, nat_tests)

plain_by : (lf slash control : Bool) (byte : ℕ) → lf ≡ false → slash ≡ false → control ≡ false
    → (if lf then codes "\\n" else (if slash then codes "\\\\" else (if control then codes "\\x" ++ two_digits byte else byte ∷ []))) ≡ byte ∷ []
plain_by true slash control byte l s c = absurd (true≢false l)
plain_by false true control byte l s c = absurd (true≢false s)
plain_by false false true byte l s c = absurd (true≢false c)
plain_by false false false byte l s c = refl

byte_as_it_is : (byte : ℕ) → is_name_byte byte ≡ true → escape byte ≡ byte ∷ []
byte_as_it_is byte is =
    plain_by (byte == 10) (byte == 92) (nat_lt byte 32 || byte == 127) byte (no_line_feed byte is) (no_backslash byte is) (no_control byte is)

both_left : (a b : Bool) → (a && b) ≡ true → a ≡ true
both_left true b e = refl
both_left false b e = e

both_right : (a b : Bool) → (a && b) ≡ true → b ≡ true
both_right true b e = e
both_right false b e = absurd (true≢false (sym e))

pub name_as_it_is : (name : Bytes) → list_all is_name_byte name ≡ true → escaped name ≡ name
name_as_it_is [] all = refl
name_as_it_is (byte ∷ name) all =
    ap₂ (λ one more. one ++ more) (byte_as_it_is byte (both_left (is_name_byte byte) (list_all is_name_byte name) all))
    (name_as_it_is name (both_right (is_name_byte byte) (list_all is_name_byte name) all))
