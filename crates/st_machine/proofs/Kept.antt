-- Code that is kept of sources.
use Rattle.std.proofs.Common.{◌≡◌, ◌∙◌, refl, sym, ap, subst, ℕ, zero, suc, ◌-◌, Bool, true, false, cond, List, [], ◌∷◌, take, bytes_eq, Option, None, Some, option_map, is_some, Contains, ◌⊎◌, inl, inr}
use Rattle.std.specs.Option.{option_map_or}
use Rattle.std.specs.Map.{lookup, lookup_entry, remove_entry}
use Rattle.std.proofs.lemmas.Slice.Eq.{bytes_eq-Decides}
use Rattle.gem_object.specs.texts.Bytes.{Bytes as Text}
use Rattle.st_tree.specs.Trees.{Program}
use Rattle.lru.specs.LruCache.{LruCache, promoted, put_entries}
use Rattle.lru.proofs.CallerLemmas.{Contains-lookup_entry, Contains-lookup, Contains-promoted, Contains-put_entries, IsPut}
use Rattle.st_machine.specs.Methods.{IsMethodOf, sources, AllAreCode, without, is_kept, used}

abbrev Entries : Type 0
Entries = List (Text × Program)

abbrev IsSome : {A : Type 0} → Option A → Type 0
IsSome (Some found) = Unit {0}
IsSome None = ⊥

taken : (count : ℕ) (entries : Entries) → sources (take count entries) ≡ take count (sources entries)
taken zero entries = refl
taken (suc count) [] = refl
taken (suc count) (entry ∷ rest) = ap (λ (list : List Text). entry.0 ∷ list) (taken count rest)

removed_by : (entry : Text × Program) (entries rest : Entries) (others : List Text) → sources rest ≡ others
    → (test : Bool) → sources (cond test entries (entry ∷ rest)) ≡ cond test (sources entries) (entry.0 ∷ others)
removed_by entry entries rest others same true = refl
removed_by entry entries rest others same false = ap (λ (list : List Text). entry.0 ∷ list) same

value_by : (entry : Text × Program) (value : Option Program) (found : Option (Text × Program))
    → value ≡ option_map (λ one. one.1) found → (test : Bool)
    → cond test (Some entry.1) value ≡ option_map (λ one. one.1) (cond test (Some entry) found)
value_by entry value found same true = refl
value_by entry value found same false = same

is_kept_by : {A : Type 0} (one : A) (found : Option A) (kept : Bool) → is_some found ≡ kept
    → (test : Bool) → is_some (cond test (Some one) found) ≡ cond test true kept
is_kept_by one found kept same true = refl
is_kept_by one found kept same false = same

module _ (source : Text) where
  removed : (entries : Entries) → sources (remove_entry (bytes_eq source) entries) ≡ without source (sources entries)
  removed [] = refl
  removed (entry ∷ rest) = removed_by entry rest (remove_entry (bytes_eq source) rest) (without source (sources rest))
      (removed rest) (bytes_eq source entry.0)

  values : (entries : Entries)
      → lookup (bytes_eq source) entries ≡ option_map (λ one. one.1) (lookup_entry (bytes_eq source) entries)
  values [] = refl
  values (entry ∷ rest) = value_by entry (lookup (bytes_eq source) rest) (lookup_entry (bytes_eq source) rest) (values rest)
      (bytes_eq source entry.0)

  kept : (entries : Entries) → is_some (lookup_entry (bytes_eq source) entries) ≡ is_kept source (sources entries)
  kept [] = refl
  kept (entry ∷ rest) = is_kept_by entry (lookup_entry (bytes_eq source) rest) (is_kept source (sources rest)) (kept rest)
      (bytes_eq source entry.0)

  pub there_is : (entries : Entries) → is_some (lookup (bytes_eq source) entries) ≡ is_kept source (sources entries)
  there_is [] = refl
  there_is (entry ∷ rest) = is_kept_by entry.1 (lookup (bytes_eq source) rest) (is_kept source (sources rest)) (there_is rest)
      (bytes_eq source entry.0)

  used_where : (list : List Text) (is : Bool) → is_kept source list ≡ is
      → used source list ≡ cond is (source ∷ without source list) (source ∷ take 255 list)
  used_where list is same = ap (λ (one : Bool). cond one (source ∷ without source list) (source ∷ take 255 list)) same

  -- code that is found is that of the source
  pub found_is : (entries : Entries) (code : Program) → AllAreCode entries
      → lookup (bytes_eq source) entries ≡ Some code → IsMethodOf source (Some code)
  found_is entries code all is =
      let found = Contains-lookup (bytes_eq source) entries code is in
      subst (λ key. IsMethodOf key (Some code)) (sym ((bytes_eq-Decides source found.0).0 found.2))
      (all (found.0, code) found.1)

  pub all_promoted : (entries : Entries) → AllAreCode entries → AllAreCode (promoted (bytes_eq source) entries)
  all_promoted entries all = λ entry within. all entry (Contains-promoted (bytes_eq source) entries entry within)

  promoted_by : (entries : Entries) (found : Option (Text × Program)) → lookup_entry (bytes_eq source) entries ≡ found
      → IsSome found
      → sources (option_map_or (λ one. one ∷ remove_entry (bytes_eq source) entries) found entries)
      ≡ used source (sources entries)
  promoted_by entries None is some = absurd some
  promoted_by entries (Some entry) is some =
      let test = (Contains-lookup_entry (bytes_eq source) entries entry is).1 in
      let same : source ≡ entry.0 = (bytes_eq-Decides source entry.0).0 test in
      let there : is_kept source (sources entries) ≡ true =
      sym (kept entries) ∙ ap (λ (one : Option (Text × Program)). is_some one) is in
      ap (λ (list : List Text). entry.0 ∷ list) (removed entries)
      ∙ (ap (λ (key : Text). key ∷ without source (sources entries)) (sym same)
      ∙ sym (used_where (sources entries) true there))

  is_there : (found : Option (Text × Program)) (value : Option Program) (code : Program)
      → value ≡ option_map (λ one. one.1) found → value ≡ Some code → IsSome found
  is_there None value code same is = absurd (subst IsSome (sym is ∙ same) tt)
  is_there (Some entry) value code same is = tt

  pub promoted_is : (entries : Entries) (code : Program) → lookup (bytes_eq source) entries ≡ Some code
      → sources (promoted (bytes_eq source) entries) ≡ used source (sources entries)
  promoted_is entries code is =
      promoted_by entries (lookup_entry (bytes_eq source) entries) refl
      (is_there (lookup_entry (bytes_eq source) entries) (lookup (bytes_eq source) entries) code (values entries) is)

  none_by : (found : Option (Text × Program)) (value : Option Program) → value ≡ option_map (λ one. one.1) found
      → value ≡ None → found ≡ None
  none_by None value same is = refl
  none_by (Some entry) value same is = absurd (subst IsSome (sym same ∙ is) tt)

  module _ (cache : LruCache Text Program) (is_cap : cache.cap ≡ 256) (absent : lookup (bytes_eq source) cache.entries ≡ None)
      (code : Program) where
    no_entry : lookup_entry (bytes_eq source) cache.entries ≡ None
    no_entry = none_by (lookup_entry (bytes_eq source) cache.entries) (lookup (bytes_eq source) cache.entries)
        (values cache.entries) absent

    pub put_is : sources (put_entries bytes_eq cache source code) ≡ used source (sources cache.entries)
    put_is =
        let there : is_kept source (sources cache.entries) ≡ false =
        sym (kept cache.entries) ∙ ap (λ (one : Option (Text × Program)). is_some one) no_entry in
        let by_entry = ap (λ (one : Option (Text × Program)). sources (option_map_or
        (λ old. (old.0, code) ∷ remove_entry (bytes_eq source) cache.entries) one
        ((source, code) ∷ take (cache.cap - 1) cache.entries))) no_entry in
        let by_cap = ap (λ (cap : ℕ). source ∷ sources (take (cap - 1) cache.entries)) is_cap in
        by_entry ∙ (by_cap ∙ (ap (λ (list : List Text). source ∷ list) (taken 255 cache.entries)
        ∙ sym (used_where (sources cache.entries) false there)))

    put_by : AllAreCode cache.entries → IsMethodOf source (Some code) → (entry : Text × Program)
        → Contains cache.entries entry ⊎ IsPut bytes_eq cache source code entry → IsMethodOf entry.0 (Some entry.1)
    put_by all is entry (inl within) = all entry within
    put_by all is entry (inr (value, inl key)) =
        subst (λ text. IsMethodOf text (Some entry.1)) (sym key)
        (subst (λ tree. IsMethodOf source (Some tree)) (sym value) is)
    put_by all is entry (inr (value, inr (other, within, test))) =
        subst (λ text. IsMethodOf text (Some entry.1)) ((bytes_eq-Decides source entry.0).0 test)
        (subst (λ tree. IsMethodOf source (Some tree)) (sym value) is)

    pub all_put : AllAreCode cache.entries → IsMethodOf source (Some code)
        → AllAreCode (put_entries bytes_eq cache source code)
    all_put all is = λ entry within. put_by all is entry (Contains-put_entries bytes_eq cache source code entry within)
