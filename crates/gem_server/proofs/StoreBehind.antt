-- What a store holds that no checkpoint was made of, and what a Stone is opened with over it.
use Rattle.std.proofs.Common.{◌≡◌, ◌⊎◌, ℕ, zero, suc, ◌<◌, true, Option, Some, None, option_map, Result, Ok, Err, refl, sym, ap, subst, ◌∙◌, inl, inr, arith}
use Rattle.std.specs.FinMap.{get}
use Rattle.radix_pages.proofs.Tables.{same_keys}
use Rattle.gem_object.specs.declared.object.Object.{Object}
use Rattle.gem_disk.specs.Disk.{Files}
use Rattle.gem_image.specs.Image.{Image}
use Rattle.gem_record.specs.Stored.{Stored}
use Rattle.gem_keeper.specs.Found.{Found, found_object, StandsFor}
use Rattle.stone_store.specs.Store.{Held, root_number, misfit, held_unless, held_over, held_by, store_of, image_of, number_of, found_in, found_by, found_of}
use Rattle.stone_store.specs.Resting.{IsStoredIn}
use Rattle.stone_store.proofs.Images.{settled_is_found}
use Rattle.gem_meaning.specs.Opened.{Opened}
use Rattle.gem_server.specs.Course.{IsOpenedOn}
use Rattle.gem_server.proofs.StoreCompletes.{ok_is}

never_ok : {A E G : Type 0} (x : A) (e : E) → ◌≡◌ {A = Result A E} (Err e) (Ok x) → G
never_ok x e same = absurd cc

held_unless_is : (root : _) (logged : _) (fit : Option _) (held : Held) → held_unless root logged fit ≡ Ok held → held.root ≡ root
held_unless_is root logged None held is =
    ap (λ (h : Held). h.root) (sym (ok_is (record { root = root; records = _ }) held is))
held_unless_is root logged (Some one) held is = never_ok held _ is

held_over_is : (root : _) (log : Result _ _) (held : Held) → held_over root log ≡ Ok held → held.root ≡ root
held_over_is root (Err fault) held is = never_ok held _ is
held_over_is root (Ok logged) held is = held_unless_is root logged (misfit (root_number root) logged) held is

held_by_none : (extent : _) (log : _) (held : Held) → extent ≡ Ok None → held_by extent log ≡ Ok held → held.root ≡ None
held_by_none extent log held none is =
    held_over_is None log held (sym (ap (λ (r : _). held_by r log) none) ∙ is)

some_stored : {A : Type 0} (root : A) → ◌≡◌ {A = Option A} None (Some root) → ⊥
some_stored root same = absurd cc

-- the root of the files, where nothing is stored but a log
no_extent : (files : Files) (stored : Stored) (is : IsStoredIn files stored) (root : Option _) → is.root ≡ root → stored.root ≡ None
    → root ≡ None
no_extent files stored is None same none = refl
no_extent files stored is (Some extent) same none = absurd (some_stored _ (sym none ∙ (rw same at is.root_is)))

held_root : (files : Files) (stored : Stored) (held : Held) (is : IsStoredIn files stored) → is.root ≡ None → store_of files ≡ Ok held
    → held.root ≡ None
held_root files stored held is none same = held_by_none _ _ held (is.extent ∙ ap (λ (r : Option _). Ok r) none) same

zero_or_more : (n : ℕ) → (n ≡ 0) ⊎ (0 < n)
zero_or_more zero = inl refl
zero_or_more (suc n) = inr (omega arith)

found_whole : (found : Option Object) → option_map (found_object 0) found ≡ found
found_whole None = refl
found_whole (Some object) = ap (λ (o : Object). Some o) (settled_is_found 0 object (zero_or_more object.changed))

-- what is found over no root is the image itself
same_image : (held : Held) (image : Image) (number : ℕ) → root_number held.root ≡ 0 → StandsFor image number (Some (found_in held))
    → (image_of held ≡ image) × (number_of held ≡ number)
same_image held image number none stands = (
  same_keys (image_of held) image (λ name. ap (λ (f : Found). f.objects name) stands
      ∙ ap (λ (root : ℕ). option_map (found_object root) (get image name)) none ∙ found_whole (get image name)),
  ap (λ (f : Found). f.number) stands,
)

-- what a Stone is opened with over files that stand for an image
pub record IsOver (image : Image) (number : ℕ) (o : Opened) : Type 0 where
  pub image_is : o.image ≡ image
  pub number_is : o.number ≡ number
  pub no_root : o.stored.root ≡ None

pub opened_over : (files : Files) (stored : Stored) (image : Image) (number : ℕ) (o : Opened) → IsStoredIn files stored → stored.root ≡ None
    → StandsFor image number (found_of files) → IsOpenedOn true files o → IsOver image number o
opened_over files stored image number o is none stands on =
    let found = on.found refl in
    let no_root : is.root ≡ None = no_extent files stored is is.root refl none in
    let root = held_root files stored found.held is no_root found.store_is in
    let same = same_image found.held image number (ap root_number root) (subst (StandsFor image number) (ap found_by found.store_is) stands) in
    let has = on.stored refl in
    let empty : has.root ≡ None = ok_is has.root None (sym has.extent ∙ is.extent ∙ ap (λ (r : Option _). Ok r) no_root) in
    record {
      image_is = found.image_is ∙ same.0;
      number_is = found.number_is ∙ same.1;
      no_root = rw empty at has.root_is;
    }
