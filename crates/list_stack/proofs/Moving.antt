-- Items that are popped from one list and pushed onto another.
use Rattle.std.proofs.Common.{◌≡◌, ◌∙◌, refl, sym, ap, ℕ, ◌+◌, ◌≤◌, ◌<◌, List, [], ◌∷◌, ◌++◌, length, reverse, take, append_assoc, arith, length-append}
use Rattle.std.proofs.lemmas.List.{append-nil, take_all, take-append-le, reverse-append}
use Rattle.list_stack.specs.Moves.{LeftOf, PoppedBy}

module _ {A : Type 0} where
  -- none yet
  pub none_popped : (old whole : List A) → PoppedBy old whole 0 old whole
  none_popped old whole = record {
    taken = [];
    many = refl;
    whole_is = sym (append-nil whole);
    new_is = sym (append-nil old);
  }

  -- one more
  pub one_popped : {old whole new left more fewer : List A} {count : ℕ} (item : A) → left ≡ fewer ++ item ∷ []
      → more ≡ new ++ item ∷ [] → PoppedBy old whole count new left → PoppedBy old whole (count + 1) more fewer
  one_popped {old} {whole} {new} {left} {more} {fewer} {count} item left_is more_is popped = record {
    taken = item ∷ popped.taken;
    many = omega (arith, popped.many);
    whole_is = popped.whole_is ∙ ap (λ (items : List A). items ++ popped.taken) left_is
        ∙ append_assoc fewer (item ∷ []) popped.taken;
    new_is = more_is ∙ ap (λ (items : List A). items ++ item ∷ []) popped.new_is
        ∙ append_assoc old (reverse popped.taken) (item ∷ [])
        ∙ ap (λ (items : List A). old ++ items) (sym (reverse-append (item ∷ []) popped.taken));
  }

  -- one was lost
  pub one_lost : {old whole new left fewer : List A} {count all : ℕ} (item : A) → left ≡ fewer ++ item ∷ [] → count < all
      → PoppedBy old whole count new left → LeftOf whole all fewer
  one_lost {old} {whole} {new} {left} {fewer} {count} {all} item left_is some popped = record {
    taken = item ∷ popped.taken;
    few = omega (arith, popped.many, some);
    whole_is = popped.whole_is ∙ ap (λ (items : List A). items ++ popped.taken) left_is
        ∙ append_assoc fewer (item ∷ []) popped.taken;
  }

  -- what stood there stands before them
  pub popped_begins : {old whole new left : List A} {count : ℕ} → PoppedBy old whole count new left
      → take (length old) new ≡ old
  popped_begins {old} {whole} {new} popped =
      ap (take (length old)) popped.new_is
      ∙ (take-append-le (length old) old (reverse popped.taken) (omega arith) ∙ take_all (length old) old (omega arith))

  -- some items are left to be popped
  pub some_left : {old whole new left : List A} {count all : ℕ} → PoppedBy old whole count new left → count < all
      → all ≤ length whole → 0 < length left
  some_left {old} {whole} {new} {left} {count} {all} popped some enough =
      omega (arith, popped.many, some, enough, ap length popped.whole_is, length-append left popped.taken)
