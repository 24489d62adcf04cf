-- Each kind of step keeps the rule of a clock's table.
use Rattle.std.proofs.Common.{◌≡◌, ◌≢◌, ℕ, zero, suc, ◌+◌, ◌%◌, ◌^◌, ◌<◌, ◌==◌, Bool, true, cond, ⊎_elim, List, [], ◌∷◌, ◌++◌, length, get_or, set, refl, sym, ap, ◌∙◌, subst, arith, eq-eqb, ne_eqb, length-append, length-set}
use Rattle.std.proofs.lemmas.List.Elements.{All-nil, All-cons, All-append}
use Rattle.std.specs.List.{range_with_len}
use mathlib.Core.Option.{some, some-injective, some-ne-none}
use lib.ListN.{get_elem?}
use Rattle.atomic_table.specs.Table.{State, Me, keeps, opening, Allows, Splits, Joins}
use Rattle.atomic_table.proofs.Lists.{at_set, set_here, set_else, at_longer}
use Rattle.gem_clock.specs.Pairs.{Has, without, IsAuthor, AreAuthors}
use Rattle.gem_clock.specs.Rule.{first_known, known_without, known_stamped, known_joined, known_spent, known_settled, known_longer, AreKnown, IsWhole, Fits, Kept, Met, Added}
use Rattle.gem_clock.specs.declared.rule.Known.{Known}
use Rattle.gem_clock.proofs.Authors.{has_append, without_has, range_has, all_known, fewer_known}
use Rattle.gem_clock.proofs.Authors as authors
use Rattle.gem_clock.proofs.Views.{seat_within, at_end}

abbrev Table : Type 0 → Type 0
Table E = State (Unit {0}) (Known E)

abbrev Seated : Type 0 → Type 0
Seated E = Me (Unit {0}) (Known E)

module _ {E : Type 0} where
  -- a new table
  first_fits : (n seat : ℕ) (v : Known E) → get_elem? (first_known n ∷ []) seat ≡ some v → Fits n 0 [] (λ _. 0) seat v
  first_fits n zero v e = subst (λ (w : Known E). Fits n 0 [] (λ _. 0) 0 w) (some-injective (first_known n) v e) record {
    front = all_known (range_with_len 1 n) [] [] refl;
    owned = λ a h. let r = range_has 1 n a h in let low = r.0 in let high = r.1 in (refl, (omega arith, omega arith));
    whole = λ _. record { stands = refl; whole = refl; met = tt };
  }
  first_fits n (suc seat) v e = absurd (some-ne-none v (sym e))

  pub begins : (n : ℕ) → Kept {E = E} n (opening (0 ∷ []) [] (first_known n))
  begins n = record {
    list = [];
    pen = 0;
    owner = λ _. 0;
    word = refl;
    range = All-nil (λ (pair : ℕ × E). IsAuthor n pair.0);
    written = (first_known n, refl, refl);
    fits = first_fits n;
  }

  -- a seat that was there has another view
  seated_anew : (views : List (Known E)) (id : ℕ) (v w : Known E) → get_elem? views id ≡ some v → get_elem? (set views id w) id ≡ some w
  seated_anew views id v w at = set_here views id w (seat_within views id v at)

  -- what the pen's view says of the table
  pens : {n : ℕ} {s : Table E} (kept : Kept n s) (id : ℕ) (v : Known E) → get_elem? s.views id ≡ some v → v.is_pen ≡ true → IsWhole kept.pen kept.list id v
  pens kept id v at is_pen = (kept.fits id v at).whole is_pen

  -- ---- fetch_add

  module _ (n a : ℕ) (entry : E) (s : Table E) (kept : Kept n s) (id : ℕ) (v : Known E) (at : get_elem? s.views id ≡ some v)
      (is_pen : v.is_pen ≡ true) (none : v.met ≡ []) (has : Has v.held a) where
    abbrev grown : List (ℕ × E)
    grown = kept.list ++ (a, entry) ∷ []

    abbrev writer : Known E
    writer = known_longer ((a, entry) ∷ []) v

    writer_fits : Fits n kept.pen grown kept.owner id writer
    writer_fits =
        let whole = pens kept id v at is_pen in
        let same : v.list ++ (a, entry) ∷ [] ≡ grown = ap (λ (xs : List (ℕ × E)). xs ++ (a, entry) ∷ []) whole.whole in record {
          front = all_known v.held (v.list ++ (a, entry) ∷ []) grown same;
          owned = (kept.fits id v at).owned;
          whole = λ _. record { stands = whole.stands; whole = same; met = subst (λ (m : List (List ℕ × List (ℕ × E))). AreKnown m grown) (sym none) tt };
        }

    others_fit : (seat : ℕ) (u : Known E) → seat ≢ id → get_elem? s.views seat ≡ some u → Fits n kept.pen grown kept.owner seat u
    others_fit seat u other there =
        let old = kept.fits seat u there in
        let mine = ((kept.fits id v at).owned a has).0 in record {
          front = authors.known_longer u.held u.list kept.list a entry (λ b h e. other (sym (old.owned b h).0 ∙ ap kept.owner e ∙ mine)) old.front;
          owned = old.owned;
          whole = λ pen. absurd (other ((old.whole pen).stands ∙ sym (pens kept id v at is_pen).stands));
        }

    grown_fits : (seat : ℕ) (u : Known E) → get_elem? (set s.views id writer) seat ≡ some u → Fits n kept.pen grown kept.owner seat u
    grown_fits seat u e = ⊎_elim
        (λ here. subst (λ (i : ℕ). Fits n kept.pen grown kept.owner i u) (sym here.0) (subst (λ (w : Known E). Fits n kept.pen grown kept.owner id w) here.1 writer_fits))
        (λ there. others_fit seat u there.0 there.1)
        (at_set s.views id seat writer u e)

    grown_word : length kept.list < 2 ^ 63 → set s.words 0 ((get_or s.words 0 0 + 1) % 2 ^ 64) ≡ length grown ∷ []
    grown_word room =
        let more = length-append kept.list ((a, entry) ∷ []) in
        let m : (length kept.list + 1) % 2 ^ 64 ≡ length grown = omega arith in
        subst (λ (ws : List ℕ). set ws 0 ((get_or ws 0 0 + 1) % 2 ^ 64) ≡ length grown ∷ []) (sym kept.word) (ap (λ (k : ℕ). k ∷ []) m)

    grown_kept : length kept.list < 2 ^ 63 → Kept n record { words = set s.words 0 ((get_or s.words 0 0 + 1) % 2 ^ 64); homes = s.homes; views = set s.views id writer }
    grown_kept room =
        let mine = (kept.fits id v at).owned a has in
        let stands = (pens kept id v at is_pen).stands in record {
          list = grown;
          pen = kept.pen;
          owner = kept.owner;
          word = grown_word room;
          range = All-append (λ (pair : ℕ × E). IsAuthor n pair.0) kept.list ((a, entry) ∷ []) kept.range
              (All-cons (λ (pair : ℕ × E). IsAuthor n pair.0) (a, entry) [] mine.1 (All-nil (λ (pair : ℕ × E). IsAuthor n pair.0)));
          written = (writer, subst (λ (i : ℕ). get_elem? (set s.views id writer) i ≡ some writer) stands (seated_anew s.views id v writer at), is_pen);
          fits = grown_fits;
        }

  pub advances : (n slots id a : ℕ) (entry : E) (pairs : List (ℕ × E)) (me : Seated E) → pairs ≡ (a, entry) ∷ [] → me.0.is_pen ≡ true → me.0.met ≡ [] → Has me.0.held a → length me.0.list < 2 ^ 63
      → Allows (Kept {E = E} n) slots id me 0 (λ k. (k + 1) % 2 ^ 64) (Added pairs me)
  advances n slots id a entry pairs me one is_pen none has room s kept _ at _ =
      let same = (pens kept id me.0 at is_pen).whole in
      let room' : length kept.list < 2 ^ 63 = subst (λ (xs : List (ℕ × E)). length xs < 2 ^ 63) same room in
      let found : get_or s.words 0 0 ≡ length me.0.list = ap (λ (ws : List ℕ). get_or ws 0 0) kept.word ∙ ap length (sym same) in (
        known_longer pairs me.0,
        keeps,
        tt,
        subst (λ (ps : List (ℕ × E)). Kept n record { words = set s.words 0 ((get_or s.words 0 0 + 1) % 2 ^ 64); homes = s.homes; views = set s.views id (known_longer ps me.0) })
            (sym one) (grown_kept n a entry s kept id me.0 at is_pen none has room'),
        record { now = refl; word = found },
      )

  -- ---- split

  module _ (n a : ℕ) (s : Table E) (kept : Kept n s) (id : ℕ) (v : Known E) (at : get_elem? s.views id ≡ some v)
      (is_pen : v.is_pen ≡ true) (has : Has v.held a) where
    abbrev owner_split : ℕ → ℕ
    owner_split b = cond (b == a) (length s.views) (kept.owner b)

    given : (b : ℕ) → b ≡ a → owner_split b ≡ length s.views
    given b e = ap (λ (t : Bool). cond t (length s.views) (kept.owner b)) (eq-eqb b a e)

    not_given : (b : ℕ) → b ≢ a → owner_split b ≡ kept.owner b
    not_given b e = ap (λ (t : Bool). cond t (length s.views) (kept.owner b)) (ne_eqb b a e)

    giver_fits : Fits n kept.pen kept.list owner_split id (known_without a v)
    giver_fits = let old = kept.fits id v at in record {
      front = fewer_known v.held (without a v.held) v.list kept.list (λ b h. (without_has a v.held b h).0) old.front;
      owned = λ b h. let left = without_has a v.held b h in let o = old.owned b left.0 in (not_given b left.1 ∙ o.0, o.1);
      whole = λ pen. let w = old.whole pen in record { stands = w.stands; whole = w.whole; met = w.met };
    }

    stamp_fits : Fits n kept.pen kept.list owner_split (length s.views) (known_stamped a v)
    stamp_fits = let mine = (kept.fits id v at).owned a has in record {
      front = all_known (a ∷ []) v.list kept.list (pens kept id v at is_pen).whole;
      owned = λ b h. let same : a ≡ b = ⊎_elim (λ e. e) (λ never. absurd never) h in
          (given b (sym same), subst (IsAuthor n) same mine.1);
      whole = λ pen. absurd (cc);
    }

    aside_fits : (seat : ℕ) (u : Known E) → seat ≢ id → get_elem? s.views seat ≡ some u → Fits n kept.pen kept.list owner_split seat u
    aside_fits seat u other there =
        let old = kept.fits seat u there in
        let mine = ((kept.fits id v at).owned a has).0 in record {
          front = old.front;
          owned = λ b h. let o = old.owned b h in (not_given b (λ e. other (sym o.0 ∙ ap kept.owner e ∙ mine)) ∙ o.0, o.1);
          whole = old.whole;
        }

    split_fits : (seat : ℕ) (u : Known E) → get_elem? (set s.views id (known_without a v) ++ known_stamped a v ∷ []) seat ≡ some u → Fits n kept.pen kept.list owner_split seat u
    split_fits seat u e = ⊎_elim
        (λ set. ⊎_elim
        (λ here. subst (λ (i : ℕ). Fits n kept.pen kept.list owner_split i u) (sym here.0) (subst (λ (w : Known E). Fits n kept.pen kept.list owner_split id w) here.1 giver_fits))
        (λ there. aside_fits seat u there.0 there.1)
        (at_set s.views id seat (known_without a v) u set))
        (λ new. subst (λ (i : ℕ). Fits n kept.pen kept.list owner_split i u) (sym (new.0 ∙ length-set s.views id (known_without a v)))
        (subst (λ (w : Known E). Fits n kept.pen kept.list owner_split (length s.views) w) new.1 stamp_fits))
        (at_end (set s.views id (known_without a v)) (known_stamped a v) u seat e)

    pub split_kept : Kept n record { words = s.words; homes = s.homes; views = set s.views id (known_without a v) ++ known_stamped a v ∷ [] }
    split_kept =
        let stands = (pens kept id v at is_pen).stands in
        let anew = at_longer (set s.views id (known_without a v)) (known_stamped a v ∷ []) id (known_without a v) (seated_anew s.views id v (known_without a v) at) in record {
          list = kept.list;
          pen = kept.pen;
          owner = owner_split;
          word = kept.word;
          range = kept.range;
          written = (known_without a v, subst (λ (i : ℕ). get_elem? (set s.views id (known_without a v) ++ known_stamped a v ∷ []) i ≡ some (known_without a v)) stands anew, is_pen);
          fits = split_fits;
        }

  pub splits : (n id x a : ℕ) (v : Known E) → x ≡ a → v.is_pen ≡ true → Has v.held a → Splits {S = Unit {0}} (Kept {E = E} n) id v (known_without x v) (known_stamped x v)
  splits n id x a v same is_pen has s kept at = split_kept n x s kept id v at is_pen (subst (Has v.held) (sym same) has)

  -- ---- join

  module _ (n : ℕ) (s : Table E) (kept : Kept n s) (id : ℕ) (v : Known E) (at : get_elem? s.views id ≡ some v)
      (is_pen : v.is_pen ≡ true) (other : ℕ) (u : Known E) (apart : ¬ (other ≡ id)) (there : get_elem? s.views other ≡ some u) where
    abbrev owner_joined : ℕ → ℕ
    owner_joined b = cond (kept.owner b == other) id (kept.owner b)

    taken : (b : ℕ) → kept.owner b ≡ other → owner_joined b ≡ id
    taken b e = ap (λ (t : Bool). cond t id (kept.owner b)) (eq-eqb (kept.owner b) other e)

    not_taken : (b : ℕ) → kept.owner b ≢ other → owner_joined b ≡ kept.owner b
    not_taken b e = ap (λ (t : Bool). cond t id (kept.owner b)) (ne_eqb (kept.owner b) other e)

    taker_fits : Fits n kept.pen kept.list owner_joined id (known_joined v u)
    taker_fits =
        let old = kept.fits id v at in
        let stamp = kept.fits other u there in
        let w = old.whole is_pen in record {
          front = all_known (u.held ++ v.held) v.list kept.list w.whole;
          owned = λ b h. ⊎_elim
              (λ l. let o = stamp.owned b l in (taken b o.0, o.1))
              (λ r. let o = old.owned b r in (not_taken b (λ e. apart (sym e ∙ o.0)) ∙ o.0, o.1))
              (has_append u.held v.held b h);
          whole = λ _. record { stands = w.stands; whole = w.whole; met = (stamp.front, w.met) };
        }

    spent_fits : Fits n kept.pen kept.list owner_joined other known_spent
    spent_fits = record {
      front = record { rest = kept.list; front = refl; own = λ b never. absurd never };
      owned = λ b never. absurd never;
      whole = λ pen. absurd (cc);
    }

    away_fits : (seat : ℕ) (x : Known E) → seat ≢ other → get_elem? s.views seat ≡ some x → Fits n kept.pen kept.list owner_joined seat x
    away_fits seat x elsewhere e = let old = kept.fits seat x e in record {
      front = old.front;
      owned = λ b h. let o = old.owned b h in (not_taken b (λ f. elsewhere (sym o.0 ∙ f)) ∙ o.0, o.1);
      whole = old.whole;
    }

    joined_fits : (seat : ℕ) (x : Known E) → get_elem? (set (set s.views id (known_joined v u)) other known_spent) seat ≡ some x → Fits n kept.pen kept.list owner_joined seat x
    joined_fits seat x e = ⊎_elim
        (λ here. subst (λ (i : ℕ). Fits n kept.pen kept.list owner_joined i x) (sym here.0) (subst (λ (w : Known E). Fits n kept.pen kept.list owner_joined other w) here.1 spent_fits))
        (λ set. ⊎_elim
        (λ here. subst (λ (i : ℕ). Fits n kept.pen kept.list owner_joined i x) (sym here.0) (subst (λ (w : Known E). Fits n kept.pen kept.list owner_joined id w) here.1 taker_fits))
        (λ old. away_fits seat x set.0 old.1)
        (at_set s.views id seat (known_joined v u) x set.1))
        (at_set (set s.views id (known_joined v u)) other seat known_spent x e)

    pub joined_kept : Kept n record { words = s.words; homes = s.homes; views = set (set s.views id (known_joined v u)) other known_spent }
    joined_kept =
        let stands = (pens kept id v at is_pen).stands in
        let anew = set_else (set s.views id (known_joined v u)) other id known_spent (λ e. apart (sym e)) ∙ seated_anew s.views id v (known_joined v u) at in record {
          list = kept.list;
          pen = kept.pen;
          owner = owner_joined;
          word = kept.word;
          range = kept.range;
          written = (known_joined v u, subst (λ (i : ℕ). get_elem? (set (set s.views id (known_joined v u)) other known_spent) i ≡ some (known_joined v u)) stands anew, is_pen);
          fits = joined_fits;
        }

  pub joins : (n id : ℕ) (v : Known E) (other : ℕ) (u : Known E) → v.is_pen ≡ true → Joins {S = Unit {0}} (Kept {E = E} n) id v other u (known_joined v u) known_spent
  joins n id v other u is_pen s kept at apart there =
      joined_kept n s kept id v at is_pen other u apart (sym (set_else s.views id other (known_joined v u) apart) ∙ there)

  -- ---- load

  module _ (n : ℕ) (s : Table E) (kept : Kept n s) (id : ℕ) (v : Known E) (at : get_elem? s.views id ≡ some v) (is_pen : v.is_pen ≡ true) where
    settled_fits : (seat : ℕ) (x : Known E) → get_elem? (set s.views id (known_settled v)) seat ≡ some x → Fits n kept.pen kept.list kept.owner seat x
    settled_fits seat x e = ⊎_elim
        (λ here.
        let old = kept.fits id v at in
        let fits : Fits n kept.pen kept.list kept.owner id (known_settled v) = record {
          front = old.front;
          owned = old.owned;
          whole = λ pen. let w = old.whole pen in record { stands = w.stands; whole = w.whole; met = tt };
        } in
        subst (λ (i : ℕ). Fits n kept.pen kept.list kept.owner i x) (sym here.0) (subst (λ (w : Known E). Fits n kept.pen kept.list kept.owner id w) here.1 fits))
        (λ there. kept.fits seat x there.1)
        (at_set s.views id seat (known_settled v) x e)

    settled_kept : Kept n record { words = set s.words 0 (get_or s.words 0 0); homes = s.homes; views = set s.views id (known_settled v) }
    settled_kept =
        let stands = (pens kept id v at is_pen).stands in record {
          list = kept.list;
          pen = kept.pen;
          owner = kept.owner;
          word = subst (λ (ws : List ℕ). set ws 0 (get_or ws 0 0) ≡ length kept.list ∷ []) (sym kept.word) refl;
          range = kept.range;
          written = (known_settled v, subst (λ (i : ℕ). get_elem? (set s.views id (known_settled v)) i ≡ some (known_settled v)) stands (seated_anew s.views id v (known_settled v) at), is_pen);
          fits = settled_fits;
        }

  pub meets : (n slots id : ℕ) (me : Seated E) → n ≡ me.0.authors → me.0.is_pen ≡ true → Allows (Kept {E = E} n) slots id me 0 (λ k. k) (Met me)
  meets n slots id me authors is_pen s kept _ at _ =
      let w = pens kept id me.0 at is_pen in
      let found : get_or s.words 0 0 ≡ length me.0.list = ap (λ (ws : List ℕ). get_or ws 0 0) kept.word ∙ ap length (sym w.whole) in (
        known_settled me.0,
        keeps,
        tt,
        settled_kept n s kept id me.0 at is_pen,
        record {
          now = refl;
          word = found;
          range = subst (λ (m : ℕ). AreAuthors m me.0.list) authors (subst (AreAuthors n) (sym w.whole) kept.range);
          held = λ a h. subst (λ (m : ℕ). IsAuthor m a) authors ((kept.fits id me.0 at).owned a h).1;
          known = subst (AreKnown me.0.met) (sym w.whole) w.met;
        },
      )
