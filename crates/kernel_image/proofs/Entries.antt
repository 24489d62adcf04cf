-- Lists that grow at the end, and the entries of the kernel's dictionaries.
use Rattle.std.proofs.Common.{◌≡◌, ◌<◌, ◌+◌, ◌^◌, ℕ, Bool, All, List, [], ◌∷◌, ◌++◌, take, get_or, length, true, refl, ap, sym, ◌∙◌, append_assoc, arith, subst}
use Rattle.std.proofs.Math.Path.{fun_ext}
use Rattle.std.specs.Prelude.{nat_lt}
use Rattle.std.specs.List.{list_all}
use Rattle.std.proofs.lemmas.Bool.{ltb-true}
use Rattle.std.proofs.lemmas.List.Sums.{AllPass-from_list_all}
use Rattle.kernel_image.specs.declared.build.GlobalRow.{GlobalRow}
use Rattle.std.proofs.lemmas.Grind.{common_steps}
use Rattle.gem_object.specs.texts.Bytes.{Bytes as Text}
use Rattle.gem_object.specs.insertion_map.Pairs.{AreDistinct}
use Rattle.gem_object.specs.Order.{same_value}
use Rattle.gem_object.specs.declared.value.Value.{Value}
use Rattle.kernel_image.specs.declared.table.ClassRow.{ClassRow}
use Rattle.kernel_image.specs.Objects.{entry, entries_from, globals_entries, users_entries, other_entries}
use Rattle.kernel_image.specs.Rows.{names_of_rows}
use Rattle.kernel_image.proofs.Spelled.{distinct_tells}

pub two_more : {X : Type 0} (a b c : List X) (x y u v : X) → b ≡ a ++ x ∷ [] → c ≡ b ++ y ∷ [] → x ≡ u → y ≡ v
    → c ≡ a ++ u ∷ v ∷ []
two_more a b c x y u v one two first second = cc (append_assoc a (x ∷ []) (y ∷ []))

pub three_more : {X : Type 0} (a b c d : List X) (x y z u v w : X) → b ≡ a ++ x ∷ [] → c ≡ b ++ y ∷ []
    → d ≡ c ++ z ∷ [] → x ≡ u → y ≡ v → z ≡ w → d ≡ a ++ u ∷ v ∷ w ∷ []
three_more a b c d x y z u v w one two three first second third =
    let both = two_more a b c x y u v one two first second in
    cc (append_assoc a (u ∷ v ∷ []) (z ∷ []))

entries_more : (names : List Text) (number : ℕ) (name : Text)
    → entries_from number (names ++ name ∷ [])
    ≡ entries_from number names ++ entry name (number + length names) ∷ []
entries_more [] number name = let e : number + 0 ≡ number = omega arith in ap (λ (n : ℕ). entry name n ∷ []) (sym e)
entries_more (first ∷ names) number name =
    let e : number + 1 + length names ≡ number + length (first ∷ names) = omega arith in
    ap (λ rest. entry first number ∷ rest) (entries_more names (number + 1) name
    ∙ ap (λ (n : ℕ). entries_from (number + 1) names ++ entry name n ∷ []) e)

row_more : (rows : List ClassRow) (row : ClassRow)
    → names_of_rows (rows ++ row ∷ []) ≡ names_of_rows rows ++ row.name.now ∷ []
row_more [] row = refl
row_more (first ∷ rows) row = ap (λ rest. first.name.now ∷ rest) (row_more rows row)

-- the entries of one row more
pub rows_more : (rows : List ClassRow) (at : ℕ) (d : ClassRow) → at < length rows
    → entries_from 1 (names_of_rows (take (at + 1) rows))
    ≡ entries_from 1 (names_of_rows (take at rows)) ++ entry (get_or rows at d).name.now (1 + at) ∷ []
rows_more rows at d below =
    let more : take (at + 1) rows ≡ take at rows ++ get_or rows at d ∷ [] = grind (arith, common_steps) in
    let count : length (names_of_rows (take at rows)) ≡ at = grind (arith, common_steps) in
    ap (λ rs. entries_from 1 (names_of_rows rs)) more
    ∙ ap (entries_from 1) (row_more (take at rows) (get_or rows at d))
    ∙ entries_more (names_of_rows (take at rows)) 1 (get_or rows at d).name.now
    ∙ ap (λ (n : ℕ). entries_from 1 (names_of_rows (take at rows)) ++ entry (get_or rows at d).name.now (1 + n) ∷ []) count

-- entries are distinct by the values' own equality where they are by their order
pub distinct_by_type : (eq : Value → Value → Bool) → ((value other : Value) → eq value other ≡ same_value value other)
    → (pairs : List (Value × Value)) → AreDistinct same_value pairs → AreDistinct eq pairs
distinct_by_type eq same pairs distinct =
    subst (λ e. AreDistinct e pairs) (sym (fun_ext (λ value. fun_ext (same value)))) distinct

-- rows whose counters pass the test
pub small_counters : (rows : List GlobalRow) → list_all (λ row. nat_lt row.counter 16777216) rows ≡ true
    → All (λ row. row.counter < 2 ^ 24) rows
small_counters rows small k d below =
    ltb-true _ _ (AllPass-from_list_all (λ (row : GlobalRow). nat_lt row.counter 16777216) rows small k d below)

pub globals_distinct : (pairs : List (Value × Value)) → pairs ≡ globals_entries → AreDistinct same_value pairs
unfolding globals_entries other_entries
globals_distinct pairs is = subst (AreDistinct same_value) (sym is) (distinct_tells globals_entries refl)

pub users_distinct : (pairs : List (Value × Value)) → pairs ≡ users_entries → AreDistinct same_value pairs
unfolding users_entries
users_distinct pairs is = subst (AreDistinct same_value) (sym is) (distinct_tells users_entries refl)

-- a list of entries to which the next row's is added
pub next_entry : (rows : List ClassRow) (at counter : ℕ) (d : ClassRow) (before after : List (Value × Value)) (made : Value × Value)
    → counter ≡ 1 + at → at < length rows → before ≡ entries_from 1 (names_of_rows (take at rows))
    → made ≡ entry (get_or rows at d).name.now counter → after ≡ before ++ made ∷ []
    → after ≡ entries_from 1 (names_of_rows (take (at + 1) rows))
next_entry rows at counter d before after made counts below is made_is after_is =
    let number = ap (λ (n : ℕ). entry (get_or rows at d).name.now n) counts in
    let more = rows_more rows at d below in
    cc
