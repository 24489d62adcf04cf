-- Lists of items that are read one after the other, each with those before it at hand.
use Rattle.std.proofs.Common.{◌≡◌, ℕ, zero, suc, ◌^◌, ◌<◌, false, cond, eqb, List, [], ◌∷◌, ◌++◌, length, Ok, refl, sym, ap, subst, ◌∙◌, append_assoc, append-nil, arith}
use Rattle.std.specs.List.{flat_map}
use Rattle.std.specs.Int.{w16, w32}
use Rattle.std.proofs.lemmas.Bool.Decides.{nat_tests}
use Rattle.body_codec.specs.Spelled.{two_bytes, four_bytes, short_list, long_list}
use Rattle.body_codec.specs.declared.fault.BodyRule.TheVariants as rule
use Rattle.body_codec.specs.Reading.{Reader, breaks, number_at, items_after, short_at, long_at, some_at}
use Rattle.body_codec.proofs.Takes.{IsBytes, Takes, Reads, IsWithin, wider, bind_within, cond_within, breaks_within, number_within, two_reads, four_reads, then_takes, bind_ok, guard_ok, ok_is, step}

module _ {X : Type 0} (P : List X → X → Type 0) where
  -- each item suits those before it
  abbrev pub AllAfter : List X → List X → Type 0
  AllAfter before [] = Unit {0}
  AllAfter before (x ∷ xs) = P before x × AllAfter (before ++ x ∷ []) xs

  -- a list that is read behind its number
  pub record IsListed (limit : ℕ) (xs : List X) : Type 0 where
    pub count : length xs < limit
    pub each : AllAfter [] xs

  -- the same with one item at least
  pub record IsSome (xs : List X) : Type 0 where
    pub listed : IsListed (2 ^ 32) xs
    pub some : 0 < length xs

  module _ (spelled : X → List ℕ) (item_at : List X → Reader X)
      (reads : (before : List X) → Reads (P before) spelled (item_at before)) where
    pub items_again : (xs before : List X) (rest : List ℕ) → AllAfter before xs
        → items_after item_at (length xs) before (flat_map spelled xs ++ rest) ≡ Ok (before ++ xs, rest)
    unfolding items_after
    items_again [] before rest all = ap (λ ys. Ok (ys, rest)) (sym (append-nil before))
    items_again (x ∷ xs) before rest all =
        ap (items_after item_at (suc (length xs)) before) (append_assoc (spelled x) (flat_map spelled xs) rest)
        ∙ (step (item_at before (spelled x ++ (flat_map spelled xs ++ rest))) (x, flat_map spelled xs ++ rest)
        (λ item. items_after item_at (length xs) (before ++ item.0 ∷ []) item.1)
        ((reads before).again x (flat_map spelled xs ++ rest) all.0)
        ∙ (items_again xs (before ++ x ∷ []) rest all.1
        ∙ ap (λ ys. Ok (ys, rest)) (append_assoc before (x ∷ []) xs)))

    -- what was read behind these items
    pub record Taken (n : ℕ) (before : List X) (bytes : List ℕ) (ys : List X) (rest : List ℕ) : Type 0 where
      pub items : List X
      pub are : ys ≡ before ++ items
      pub count : length items ≡ n
      pub each : AllAfter before items
      pub taken : Takes bytes (flat_map spelled items) rest

    pub items_take : (n : ℕ) (before : List X) (bytes : List ℕ) (ys : List X) (rest : List ℕ) → IsBytes bytes
        → items_after item_at n before bytes ≡ Ok (ys, rest) → Taken n before bytes ys rest
    unfolding items_after
    items_take zero before bytes ys rest fits e =
        let is = ok_is (before, bytes) (ys, rest) e in
        subst (λ (p : List X × List ℕ). Taken 0 before bytes p.0 p.1) is (record {
          items = [];
          are = sym (append-nil before);
          count = refl;
          each = tt;
          taken = record { parts = refl; rest_fits = fits };
        })
    items_take (suc n) before bytes ys rest fits e =
        let a = bind_ok (item_at before bytes) (λ item. items_after item_at n (before ++ item.0 ∷ []) item.1) (ys, rest) e in
        let first = (reads before).takes bytes a.0.0 a.0.1 fits a.1 in
        let others = items_take n (before ++ a.0.0 ∷ []) a.0.1 ys rest first.0.rest_fits a.2 in
        record {
          items = a.0.0 ∷ others.items;
          are = others.are ∙ append_assoc before (a.0.0 ∷ []) others.items;
          count = ap suc others.count;
          each = (first.1, others.each);
          taken = then_takes bytes (spelled a.0.0) a.0.1 (flat_map spelled others.items) rest first.0 others.taken;
        }

    items_within : (n : ℕ) (before : List X) (bytes : List ℕ) → IsWithin bytes (items_after item_at n before bytes)
    unfolding items_after
    items_within zero before bytes = omega arith
    items_within (suc n) before bytes = bind_within bytes (item_at before bytes)
        (λ item. items_after item_at n (before ++ item.0 ∷ []) item.1) ((reads before).within bytes)
        (λ x le. wider bytes x.1 _ le (items_within n (before ++ x.0 ∷ []) x.1))

    long_takes : (bytes : List ℕ) (xs : List X) (rest : List ℕ) → IsBytes bytes
        → long_at item_at bytes ≡ Ok (xs, rest)
        → Takes bytes (long_list spelled xs) rest × IsListed (2 ^ 32) xs
    unfolding long_at
    long_takes bytes xs rest fits e =
        let a = bind_ok (number_at w32 bytes) (λ count. items_after item_at count.0 [] count.1) (xs, rest) e in
        let count = four_reads.takes bytes a.0.0 a.0.1 fits a.1 in
        let items = items_take a.0.0 [] a.0.1 xs rest count.0.rest_fits a.2 in
        let same : xs ≡ items.items = items.are in
        let whole = then_takes bytes (four_bytes a.0.0) a.0.1 (flat_map spelled items.items) rest count.0 items.taken in
        let long : Takes bytes (long_list spelled items.items) rest =
        subst (λ (n : ℕ). Takes bytes (four_bytes n ++ flat_map spelled items.items) rest) (sym items.count) whole in
        subst (λ (ys : List X). Takes bytes (long_list spelled ys) rest × IsListed (2 ^ 32) ys) (sym same)
        (long, record { count = subst (λ (n : ℕ). n < 2 ^ 32) (sym items.count) count.1; each = items.each })

    long_again : (xs : List X) (rest : List ℕ) → IsListed (2 ^ 32) xs
        → long_at item_at (long_list spelled xs ++ rest) ≡ Ok (xs, rest)
    unfolding long_at
    long_again xs rest listed =
        ap (long_at item_at) (append_assoc (four_bytes (length xs)) (flat_map spelled xs) rest)
        ∙ (step (number_at w32 (four_bytes (length xs) ++ (flat_map spelled xs ++ rest)))
        (length xs, flat_map spelled xs ++ rest) (λ count. items_after item_at count.0 [] count.1)
        (four_reads.again (length xs) (flat_map spelled xs ++ rest) listed.count)
        ∙ items_again xs [] rest listed.each)

    pub long_reads : Reads (IsListed (2 ^ 32)) (long_list spelled) (long_at item_at)
    unfolding long_at
    long_reads = record {
      again = long_again;
      takes = long_takes;
      within = λ bytes. bind_within bytes (number_at w32 bytes) (λ count. items_after item_at count.0 [] count.1)
          (number_within w32 bytes) (λ x le. wider bytes x.1 _ le (items_within x.0 [] x.1));
    }

    -- how a list of one item at least is read, by how a list is read
    some_from : (bytes : List ℕ) (n : ℕ) (rest : List ℕ) → number_at w32 bytes ≡ Ok (n, rest) → eqb n 0 ≡ false
        → some_at item_at bytes ≡ long_at item_at bytes
    unfolding some_at long_at
    some_from bytes n rest read some =
        step (number_at w32 bytes) (n, rest) (λ count. cond (eqb count.0 0) (breaks bytes rule.Range) (items_after item_at count.0 [] count.1)) read
        ∙ ap (λ b. cond b (breaks bytes rule.Range) (items_after item_at n [] rest)) some
        ∙ sym (step (number_at w32 bytes) (n, rest) (λ count. items_after item_at count.0 [] count.1) read)

    some_again : (xs : List X) (rest : List ℕ) → IsSome xs
        → some_at item_at (long_list spelled xs ++ rest) ≡ Ok (xs, rest)
    some_again xs rest is =
        let bytes = long_list spelled xs ++ rest in
        let after = flat_map spelled xs ++ rest in
        let read : number_at w32 bytes ≡ Ok (length xs, after) =
        ap (number_at w32) (append_assoc (four_bytes (length xs)) (flat_map spelled xs) rest)
        ∙ four_reads.again (length xs) after is.listed.count in
        some_from bytes (length xs) after read (grind (arith, nat_tests, is.some)) ∙ long_again xs rest is.listed

    some_takes : (bytes : List ℕ) (xs : List X) (rest : List ℕ) → IsBytes bytes
        → some_at item_at bytes ≡ Ok (xs, rest) → Takes bytes (long_list spelled xs) rest × IsSome xs
    unfolding some_at
    some_takes bytes xs rest fits e =
        let a = bind_ok (number_at w32 bytes)
        (λ count. cond (eqb count.0 0) (breaks bytes rule.Range) (items_after item_at count.0 [] count.1)) (xs, rest) e in
        let g = guard_ok (eqb a.0.0 0) _ (items_after item_at a.0.0 [] a.0.1) (xs, rest) a.2 in
        let long = long_takes bytes xs rest fits (sym (some_from bytes a.0.0 a.0.1 a.1 g.0) ∙ e) in
        let count = four_reads.takes bytes a.0.0 a.0.1 fits a.1 in
        let items = items_take a.0.0 [] a.0.1 xs rest count.0.rest_fits g.1 in
        let some : 0 < a.0.0 = grind (arith, nat_tests, g.0) in
        (long.0, record { listed = long.1; some = omega (arith, some, items.count, ap length items.are) })

    pub some_reads : Reads IsSome (long_list spelled) (some_at item_at)
    unfolding some_at
    some_reads = record {
      again = some_again;
      takes = some_takes;
      within = λ bytes. bind_within bytes (number_at w32 bytes)
          (λ count. cond (eqb count.0 0) (breaks bytes rule.Range) (items_after item_at count.0 [] count.1)) (number_within w32 bytes)
          (λ x le. cond_within bytes (eqb x.0 0) (breaks bytes rule.Range) (items_after item_at x.0 [] x.1) (breaks_within bytes)
          (wider bytes x.1 _ le (items_within x.0 [] x.1)));
    }

    short_takes : (bytes : List ℕ) (xs : List X) (rest : List ℕ) → IsBytes bytes
        → short_at item_at bytes ≡ Ok (xs, rest)
        → Takes bytes (short_list spelled xs) rest × IsListed (2 ^ 16) xs
    unfolding short_at
    short_takes bytes xs rest fits e =
        let a = bind_ok (number_at w16 bytes) (λ count. items_after item_at count.0 [] count.1) (xs, rest) e in
        let count = two_reads.takes bytes a.0.0 a.0.1 fits a.1 in
        let items = items_take a.0.0 [] a.0.1 xs rest count.0.rest_fits a.2 in
        let same : xs ≡ items.items = items.are in
        let whole = then_takes bytes (two_bytes a.0.0) a.0.1 (flat_map spelled items.items) rest count.0 items.taken in
        let short : Takes bytes (short_list spelled items.items) rest =
        subst (λ (n : ℕ). Takes bytes (two_bytes n ++ flat_map spelled items.items) rest) (sym items.count) whole in
        subst (λ (ys : List X). Takes bytes (short_list spelled ys) rest × IsListed (2 ^ 16) ys) (sym same)
        (short, record { count = subst (λ (n : ℕ). n < 2 ^ 16) (sym items.count) count.1; each = items.each })

    short_again : (xs : List X) (rest : List ℕ) → IsListed (2 ^ 16) xs
        → short_at item_at (short_list spelled xs ++ rest) ≡ Ok (xs, rest)
    unfolding short_at
    short_again xs rest listed =
        ap (short_at item_at) (append_assoc (two_bytes (length xs)) (flat_map spelled xs) rest)
        ∙ (step (number_at w16 (two_bytes (length xs) ++ (flat_map spelled xs ++ rest)))
        (length xs, flat_map spelled xs ++ rest) (λ count. items_after item_at count.0 [] count.1)
        (two_reads.again (length xs) (flat_map spelled xs ++ rest) listed.count)
        ∙ items_again xs [] rest listed.each)

    pub short_reads : Reads (IsListed (2 ^ 16)) (short_list spelled) (short_at item_at)
    unfolding short_at
    short_reads = record {
      again = short_again;
      takes = short_takes;
      within = λ bytes. bind_within bytes (number_at w16 bytes) (λ count. items_after item_at count.0 [] count.1)
          (number_within w16 bytes) (λ x le. wider bytes x.1 _ le (items_within x.0 [] x.1));
    }
