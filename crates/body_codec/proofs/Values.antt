-- Values and keys: what is read is spelled so, and what is spelled so is read.
use Rattle.std.proofs.Common.{◌≡◌, ℕ, ◌≤◌, ◌<◌, ◌||◌, Bool, false, cond, eqb, ltb, List, [], ◌∷◌, ◌++◌, length, Ok, refl, sym, ap, subst, ◌∙◌, arith}
use Rattle.std.proofs.lemmas.Bool.{or_parts, or_from, ltb-false, le-ltb}
use Rattle.std.proofs.lemmas.Bool.Decides.{nat_tests}
use Rattle.gem_object.specs.Order.{tag_of}
use Rattle.gem_object.specs.Spelling.{IsOid, IsText, IsStorable, IsPlainByte}
use Rattle.gem_object.specs.declared.value.Value.{Value}
use Rattle.gem_object.specs.declared.value.Value.TheVariants.{Nil, False, True, Int, Char, Sym, Ref, Block}
use Rattle.body_codec.specs.declared.fault.BodyRule.TheVariants as rule
use Rattle.body_codec.specs.Spelled.{eight_bytes, integer_bytes, spelled_text, spelled_value, spelled_content}
use Rattle.body_codec.specs.Reading.{breaks, made, byte_at, name_at, integer_at, text_at, char_at, content_at, value_at, key_at}
use Rattle.body_codec.proofs.Fields.{heads, IsSmall}
use Rattle.body_codec.proofs.Apart.{tagged}
use Rattle.body_codec.proofs.Takes.{IsBytes, Takes, Reads, IsWithin, wider, ok_is, guard_ok, cond_within, breaks_within, bind_within, byte_within, integer_reads, char_reads, text_reads, name_reads}
use Rattle.body_codec.proofs.Tagged.{made_within, by_tag, no_result, IsTaken, content_taken, alone_taken}

value_again : (value : Value) (rest : List ℕ) → IsStorable value
    → value_at (spelled_value value ++ rest) ≡ Ok (value, rest)
unfolding value_at byte_at content_at
value_again Nil rest stored = refl
value_again False rest stored = refl
value_again True rest stored = refl
value_again (Int z) rest stored = ap (made Int) (integer_reads.again z rest stored)
value_again (Char code) rest stored = ap (made Char) (char_reads.again code rest stored)
value_again (Sym name) rest stored = ap (made Sym) (text_reads.again name rest stored)
value_again (Ref oid) rest stored = ap (made Ref) (name_reads.again oid rest stored)
value_again (Block block) rest stored = absurd stored

abbrev IsValue : List ℕ → Value × List ℕ → Type 0
IsValue bytes y = IsTaken IsStorable spelled_value bytes y

behind_tag : (tag : ℕ) (more : List ℕ) (y : Value × List ℕ) → IsBytes (tag ∷ more)
    → content_at tag (tag ∷ more) more ≡ Ok y → IsValue (tag ∷ more) y
unfolding content_at
behind_tag tag more y fits e =
    by_tag tag 0 _ _ (Ok y) (λ at is. alone_taken IsStorable spelled_value Nil 0 refl tt tag more y fits at (ok_is (Nil, more) y is)) (λ n0.
    by_tag tag 1 _ _ (Ok y) (λ at is. alone_taken IsStorable spelled_value False 1 refl tt tag more y fits at (ok_is (False, more) y is)) (λ n1.
    by_tag tag 2 _ _ (Ok y) (λ at is. alone_taken IsStorable spelled_value True 2 refl tt tag more y fits at (ok_is (True, more) y is)) (λ n2.
    by_tag tag 3 _ _ (Ok y) (content_taken IsStorable spelled_value IsSmall integer_bytes integer_at integer_reads Int (λ x p. p) 3 (λ x. refl) tag more y fits) (λ n3.
    by_tag tag 4 _ _ (Ok y) (content_taken IsStorable spelled_value IsPlainByte (λ code. code ∷ []) char_at char_reads Char (λ x p. p) 4 (λ x. refl) tag more y fits) (λ n4.
    by_tag tag 5 _ _ (Ok y) (content_taken IsStorable spelled_value IsText spelled_text text_at text_reads Sym (λ x p. p) 5 (λ x. refl) tag more y fits) (λ n5.
    by_tag tag 6 _ _ (Ok y) (content_taken IsStorable spelled_value IsOid eight_bytes name_at name_reads Ref (λ x p. p) 6 (λ x. refl) tag more y fits)
    (no_result _ y) n5) n4) n3) n2) n1) n0) e

content_within : (tag : ℕ) (bytes more : List ℕ) → length more ≤ length bytes → IsWithin bytes (content_at tag bytes more)
unfolding content_at
content_within tag bytes more le =
    cond_within bytes (eqb tag 0) (Ok (Nil, more)) _ le (
    cond_within bytes (eqb tag 1) (Ok (False, more)) _ le (
    cond_within bytes (eqb tag 2) (Ok (True, more)) _ le (
    cond_within bytes (eqb tag 3) _ _ (made_within Int bytes _ (wider bytes more _ le (integer_reads.within more))) (
    cond_within bytes (eqb tag 4) _ _ (made_within Char bytes _ (wider bytes more _ le (char_reads.within more))) (
    cond_within bytes (eqb tag 5) _ _ (made_within Sym bytes _ (wider bytes more _ le (text_reads.within more))) (
    cond_within bytes (eqb tag 6) _ _ (made_within Ref bytes _ (wider bytes more _ le (name_reads.within more)))
    (breaks_within bytes)))))))

value_takes : (bytes : List ℕ) (value : Value) (rest : List ℕ) → IsBytes bytes
    → value_at bytes ≡ Ok (value, rest) → IsValue bytes (value, rest)
unfolding value_at byte_at
value_takes [] value rest fits e = no_result _ (value, rest) e
value_takes (tag ∷ more) value rest fits e = behind_tag tag more (value, rest) fits e

pub value_reads : Reads IsStorable spelled_value value_at
unfolding value_at
value_reads = record {
  again = value_again;
  takes = value_takes;
  within = λ bytes. bind_within bytes (byte_at bytes) (λ tag. content_at tag.0 bytes tag.1) (byte_within bytes)
      (λ x le. content_within x.0 bytes x.1 le);
}

-- ---- keys

pub record IsKeyUpTo (greatest : ℕ) (value : Value) : Type 0 where
  pub stored : IsStorable value
  pub some : 0 < tag_of value
  pub most : tag_of value ≤ greatest

-- whether a tag is none of a key
abbrev is_no_key : ℕ → ℕ → Bool
is_no_key greatest tag = eqb tag 0 || ltb greatest tag

key_is : (greatest tag : ℕ) (more : List ℕ) → key_at greatest (tag ∷ more)
    ≡ cond (is_no_key greatest tag) (breaks (tag ∷ more) rule.Kind) (value_at (tag ∷ more))
unfolding key_at value_at byte_at
key_is greatest tag more = refl

key_again : (greatest : ℕ) (value : Value) (rest : List ℕ) → IsKeyUpTo greatest value
    → key_at greatest (spelled_value value ++ rest) ≡ Ok (value, rest)
key_again greatest value rest key =
    let whole = tagged value rest key.stored in
    let test : is_no_key greatest (tag_of value) ≡ false =
    or_from (eqb (tag_of value) 0) (ltb greatest (tag_of value)) (grind (arith, nat_tests, key.some)) (le-ltb _ _ key.most) in
    ap (key_at greatest) whole
    ∙ key_is greatest (tag_of value) (spelled_content value ++ rest)
    ∙ ap (λ b. cond b (breaks (tag_of value ∷ (spelled_content value ++ rest)) rule.Kind)
    (value_at (tag_of value ∷ (spelled_content value ++ rest)))) test
    ∙ sym (ap value_at whole)
    ∙ value_reads.again value rest key.stored

key_takes : (greatest : ℕ) (bytes : List ℕ) (value : Value) (rest : List ℕ) → IsBytes bytes
    → key_at greatest bytes ≡ Ok (value, rest) → Takes bytes (spelled_value value) rest × IsKeyUpTo greatest value
unfolding key_at byte_at
key_takes greatest [] value rest fits e = no_result _ (value, rest) e
key_takes greatest (tag ∷ more) value rest fits e =
    let g = guard_ok (is_no_key greatest tag) _ (value_at (tag ∷ more)) (value, rest) (sym (key_is greatest tag more) ∙ e) in
    let both = or_parts (eqb tag 0) (ltb greatest tag) g.0 in
    let taken = value_reads.takes (tag ∷ more) value rest fits g.1 in
    let same : tag ≡ tag_of value = (heads (taken.0.parts ∙ tagged value rest taken.1)).0 in
    let some : 0 < tag = grind (arith, nat_tests, both.0) in
    let most : tag ≤ greatest = ltb-false _ _ both.1 in (
      taken.0,
      record {
        stored = taken.1;
        some = subst (λ (n : ℕ). 0 < n) same some;
        most = subst (λ (n : ℕ). n ≤ greatest) same most;
      },
    )

pub key_reads : (greatest : ℕ) → Reads (IsKeyUpTo greatest) spelled_value (key_at greatest)
unfolding key_at
key_reads greatest = record {
  again = key_again greatest;
  takes = key_takes greatest;
  within = λ bytes. bind_within bytes (byte_at bytes)
      (λ tag. cond (is_no_key greatest tag.0) (breaks bytes rule.Kind) (content_at tag.0 bytes tag.1)) (byte_within bytes)
      (λ x le. cond_within bytes (is_no_key greatest x.0) (breaks bytes rule.Kind) (content_at x.0 bytes x.1)
      (breaks_within bytes) (content_within x.0 bytes x.1 le));
}
