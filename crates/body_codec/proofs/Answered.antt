-- What is answered of bytes, by how they are read.
use Rattle.std.proofs.Common.{◌≡◌, ℕ, ◌-◌, ◌≤◌, List, ◌++◌, length, take, drop, Result, Ok, Err, refl, sym, ap, ap₂, subst, ◌∙◌, ◌⊎◌, inl, inr, arith}
use Rattle.std.proofs.lemmas.List.{take_at, take-append-drop, length-append, length-drop}
use Rattle.body_codec.specs.declared.fault.BodyRule.{BodyRule}
use Rattle.body_codec.specs.declared.fault.BodyFault.{BodyFault}
use Rattle.body_codec.specs.declared.fault.BodyFault.TheVariants.{Bad, NoMemory}
use Rattle.body_codec.specs.declared.fault.Flaw.{Flaw}
use Rattle.body_codec.specs.declared.fault.ReadError.{ReadError}
use Rattle.body_codec.specs.declared.fault.ReadError.TheVariants as errors
use Rattle.body_codec.specs.Reading.{Reader, Fails}
use Rattle.body_codec.specs.Answers.{IsRead, NoneIsRead, IsFirstFault, fault_of}
use Rattle.body_codec.proofs.Takes.{IsBytes, Reads, IsWithin, ok_is}

abbrev failed : {A : Type 0} → Flaw → Result A Flaw
failed f = Err f

abbrev bad : {A : Type 0} → BodyFault → Result A BodyFault
bad f = Err f

flaw_is : {A : Type 0} (f g : Flaw) → failed {A = A} f ≡ failed g → f ≡ g
flaw_is f g e = cc

not_both : {A G : Type 0} (x : A) (f : Flaw) (r : Result A Flaw) → r ≡ Ok x → r ≡ Err f → G
not_both x f r e d = absurd (never x f (sym e ∙ d)) where
  never : {A : Type 0} (x : A) (f : Flaw) → Ok x ≡ failed f → ⊥
  never x f e = absurd cc

module _ {X : Type 0} (P : X → Type 0) (spelled : X → List ℕ) (read : Reader X) (reads : Reads P spelled read)
    (bytes : List ℕ) where
  abbrev Answer : Type 0
  Answer = Result (X × ℕ) BodyFault

  -- how much was read
  within_ok : (r : Result (X × List ℕ) Flaw) (y : X × List ℕ) → r ≡ Ok y → IsWithin bytes r → length y.1 ≤ length bytes
  within_ok r y e within = subst (IsWithin bytes) e within

  within_err : (r : Result (X × List ℕ) Flaw) (f : Flaw) → r ≡ Err f → IsWithin bytes r → f.left ≤ length bytes
  within_err r f e within = subst (IsWithin bytes) e within

  pub shorter : (x : X) (rest : List ℕ) → read bytes ≡ Ok (x, rest) → length rest ≤ length bytes
  shorter x rest e = within_ok (read bytes) (x, rest) e (reads.within bytes)

  pub flaw_within : (f : Flaw) → read bytes ≡ Err f → f.left ≤ length bytes
  flaw_within f e = within_err (read bytes) f e (reads.within bytes)

  pub is_read : IsBytes bytes → (x : X) (rest : List ℕ) → read bytes ≡ Ok (x, rest)
      → IsRead P spelled bytes x (length bytes - length rest)
  is_read fits x rest e =
      let t = reads.takes bytes x rest fits e in
      let size : length bytes - length rest ≡ length (spelled x) =
      omega (arith, ap length t.0.parts, length-append (spelled x) rest) in
      record {
        is_one = t.1;
        front = ap (take (length bytes - length rest)) t.0.parts ∙ take_at (spelled x) rest (length bytes - length rest) (sym size);
        size_is = size;
      }

  pub read_of : (x : X) (size : ℕ) → IsRead P spelled bytes x size → read bytes ≡ Ok (x, drop size bytes)
  read_of x size is =
      let whole : bytes ≡ spelled x ++ drop size bytes =
      sym (take-append-drop size bytes) ∙ ap (λ l. l ++ drop size bytes) is.front in
      ap read whole ∙ reads.again x (drop size bytes) is.is_one

  pub size_within : (x : X) (size : ℕ) → IsRead P spelled bytes x size → size ≤ length bytes
  size_within x size is =
      let front : length (take size bytes) ≡ size = ap length is.front ∙ sym is.size_is in
      omega (arith, front, ap length (take-append-drop size bytes), length-append (take size bytes) (drop size bytes))

  none_read : (f : Flaw) → read bytes ≡ Err f → NoneIsRead P spelled bytes
  none_read f e x size is = not_both (x, drop size bytes) f (read bytes) (read_of x size is) e

  first_fault : (f : Flaw) → read bytes ≡ Err f → IsFirstFault read bytes (length bytes - f.left) f.rule
  first_fault f e =
      let within = flaw_within f e in
      let left : f.left ≡ length (drop (length bytes - f.left) bytes) = omega (arith, within, length-drop (length bytes - f.left) bytes) in
      record {
        inside = omega arith;
        fails = e ∙ ap (λ (n : ℕ). failed (record { left = n; rule = f.rule })) left;
      }

  -- where a thing was read
  pub read_again : IsBytes bytes → (x : X) (rest : List ℕ) → read bytes ≡ Ok (x, rest)
      → (y : X) (size : ℕ) → IsRead P spelled bytes y size → ◌≡◌ {A = Answer} (Ok (x, length bytes - length rest)) (Ok (y, size))
  read_again fits x rest e y size is =
      let same = ok_is (x, rest) (y, drop size bytes) (sym e ∙ read_of y size is) in
      let one : x ≡ y = ap (λ (p : X × List ℕ). p.0) same in
      let long : length bytes - length rest ≡ size =
      omega (arith, ap (λ (p : X × List ℕ). length p.1) same, length-drop size bytes, size_within y size is) in
      ap₂ (λ (z : X) (n : ℕ). Ok (z, n)) one long

  pub no_fault : (x : X) (rest : List ℕ) → read bytes ≡ Ok (x, rest) → (at : ℕ) (broken : BodyRule)
      → IsFirstFault read bytes at broken → ⊥
  no_fault x rest e at broken fault = not_both (x, rest) _ (read bytes) e fault.fails

  -- where nothing was read
  abbrev fault_told : ReadError → Answer
  fault_told error = Err (fault_of (length bytes) error)

  pub fault_is : (error : ReadError) → Fails error (read bytes) → (at : ℕ) (broken : BodyRule)
      → fault_told error ≡ Err (Bad at broken)
      → IsFirstFault read bytes at broken × NoneIsRead P spelled bytes
  fault_is errors.Memory e at broken told = absurd cc
  fault_is (errors.Flaw f) e at broken told =
      let at_is : length bytes - f.left ≡ at = cc in
      let rule_is : f.rule ≡ broken = cc in (
        subst (λ r. IsFirstFault read bytes at r) rule_is
            (subst (λ (n : ℕ). IsFirstFault read bytes n f.rule) at_is (first_fault f e)),
        none_read f e,
      )

  pub none_told : (error : ReadError) → Fails error (read bytes) → (y : X) (size : ℕ) → IsRead P spelled bytes y size
      → fault_told error ≡ Err NoMemory
  none_told errors.Memory e y size is = refl
  none_told (errors.Flaw f) e y size is = absurd (none_read f e y size is)

  pub fault_from : (error : ReadError) → Fails error (read bytes) → (at : ℕ) (broken : BodyRule)
      → IsFirstFault read bytes at broken
      → (fault_told error ≡ Err (Bad at broken)) ⊎ (fault_told error ≡ Err NoMemory)
  fault_from errors.Memory e at broken fault = inr refl
  fault_from (errors.Flaw f) e at broken fault =
      let same = flaw_is f (record { left = length (drop at bytes); rule = broken }) (sym e ∙ fault.fails) in
      let at_is : length bytes - f.left ≡ at =
      omega (arith, ap (λ (g : Flaw). g.left) same, length-drop at bytes, fault.inside) in
      inl (ap₂ (λ (n : ℕ) (r : BodyRule). bad (Bad n r)) at_is (ap (λ (g : Flaw). g.rule) same))
