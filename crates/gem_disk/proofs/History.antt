-- What became of two files in memory, told from what they hold and the calls on them.
use Rattle.std.proofs.Common.{◌≡◌, ℕ, ◌≤◌, Bool, true, false, cond, List, [], ◌∷◌, length, reverse, Result, Ok, Err, OnOk, OnErr, refl, sym, ◌∙◌, ap, ap₂, subst}
use Rattle.std.proofs.lemmas.List.{reverse-append}
use Rattle.gem_disk.specs.declared.disk.Which.{Which}
use Rattle.gem_disk.specs.declared.disk.Which.TheVariants.{Extent, Log}
use Rattle.gem_disk.specs.declared.images.Pick.{Pick}
use Rattle.gem_disk.specs.declared.images.Pick.TheVariants.{Old, New, Torn as TornTo}
use Rattle.gem_disk.specs.Disk.{Files, file_of, is_same, Change, Wrote, CutTo, Past, reads, stepped}
use Rattle.gem_disk.specs.Picked.{torn_to, since_sync, picked_file, Makes, IsExact}
use Rattle.gem_disk.specs.declared.recorded.Call.{Call}
use Rattle.gem_disk.specs.declared.recorded.Kind.{Kind}
use Rattle.gem_disk.specs.declared.recorded.Kind.TheVariants.{Write, Truncation, Sync}
use Rattle.gem_disk.specs.Recorded.{with_file, change_by, made, change_of, undone, history, OneCall, is_sync, back, done_anew, image_back}

one_step : (call_file file : Which) (now : Files) (bytes : List ℕ) (change : Change) (past : Past) → reads past file ≡ file_of (with_file now call_file bytes) file → reads (stepped past call_file change (file_of now call_file)) file ≡ file_of now file
one_step Extent Extent now bytes change past before = refl
one_step Extent Log now bytes change past before = before
one_step Log Extent now bytes change past before = before
one_step Log Log now bytes change past before = refl

-- the files read as they are
pub reads_now : (now : Files) (calls : List Call) (file : Which) → reads (history now calls) file ≡ file_of now file
reads_now now [] file = refl
reads_now now (call ∷ older) file =
    let before = with_file now call.file (undone call (file_of now call.file)) in
    one_step call.file file now (undone call (file_of now call.file)) (change_of call) (history before older) (reads_now before older file)

got : (now : Files) (file : Which) (bytes : List ℕ) → file_of (with_file now file bytes) file ≡ bytes
got now Extent bytes = refl
got now Log bytes = refl

as_before : (now : Files) (file : Which) (bytes before : List ℕ) → before ≡ file_of now file → with_file (with_file now file bytes) file before ≡ now
as_before now Extent bytes before is = ap (λ (l : List ℕ). record now { extent = l }) is
as_before now Log bytes before is = ap (λ (l : List ℕ). record now { log = l }) is

latest : (now : Files) (older : List Call) (call : Call) (bytes : List ℕ) → undone call bytes ≡ file_of now call.file
    → history (with_file now call.file bytes) (call ∷ older) ≡ stepped (history now older) call.file (change_of call) bytes
latest now older call bytes undoes =
    ap (λ (l : List ℕ). stepped (history (with_file (with_file now call.file bytes) call.file (undone call l)) older) call.file (change_of call) l) (got now call.file bytes)
    ∙ ap (λ (f : Files). stepped (history f older) call.file (change_of call) bytes) (as_before now call.file bytes (undone call bytes) undoes)

-- one call more is one step more
one_more : (now : Files) (old new : List Call) (file : Which) (kind : Kind) (at : ℕ) (bytes after : List ℕ) → OneCall file kind at bytes (file_of now file) after old new
    → history (with_file now file after) (reverse new) ≡ stepped (history now (reverse old)) file (change_by kind at (length bytes)) after
one_more now old new file kind at bytes after one =
    let order : reverse new ≡ one.call ∷ reverse old = ap reverse one.more ∙ reverse-append old (one.call ∷ []) in
    let at_own : history (with_file now one.call.file after) (one.call ∷ reverse old) ≡ stepped (history now (reverse old)) one.call.file (change_of one.call) after =
    latest now (reverse old) one.call after (one.undoes ∙ ap (file_of now) (sym one.of_file)) in
    ap (history (with_file now file after)) order
    ∙ subst (λ (f : Which). history (with_file now f after) (one.call ∷ reverse old) ≡ stepped (history now (reverse old)) f (change_of one.call) after) one.of_file at_own
    ∙ ap (λ (ch : Change). stepped (history now (reverse old)) file ch after) one.did

unchanged : (now : Files) (file : Which) → with_file now file (file_of now file) ≡ now
unchanged now Extent = refl
unchanged now Log = refl

makes_made : (kind : Kind) (at : ℕ) (bytes old : List ℕ) → at ≤ length old → Makes (change_by kind at (length bytes)) old (made kind at bytes old)
makes_made Write at bytes old inside = (inside, (bytes, refl, refl))
makes_made Truncation at bytes old inside = (inside, refl)
makes_made Sync at bytes old inside = refl

-- what is seen of the files that hold this now, at the one of them
module _ (now : Files) (past : Past) (calls : List Call) (is : history now (reverse calls) ≡ past) (file own : Which) (is_own : file ≡ own) where
  pub held_is : file_of now own ≡ reads past file
  held_is = sym (reads_now now (reverse calls) own) ∙ ap (λ (p : Past). reads p own) is ∙ ap (reads past) (sym is_own)

  module _ (new : List Call) (kind : Kind) (at : ℕ) (bytes after : List ℕ) where
    -- a call more, as a step of what became of the files
    pub changed : OneCall file kind at bytes (file_of now own) after calls new → history (with_file now own after) (reverse new) ≡ stepped past file (change_by kind at (length bytes)) (made kind at bytes (reads past file))
    changed one =
        subst (λ (f : Which). OneCall file kind at bytes (file_of now f) after calls new → history (with_file now f after) (reverse new) ≡ stepped (history now (reverse calls)) file (change_by kind at (length bytes)) after)
        is_own (one_more now calls new file kind at bytes after) one
        ∙ ap (λ (p : Past). stepped p file (change_by kind at (length bytes)) after) is
        ∙ ap (stepped past file (change_by kind at (length bytes))) (one.makes ∙ ap (made kind at bytes) held_is)

    -- the steps stay exact, whether or not the call did anything
    pub exact : {T E : Type 0} (result : Result T E) → at ≤ length (reads past file) → IsExact past → OnOk result (OneCall file kind at bytes (file_of now own) after calls new)
        → OnErr result ((after ≡ file_of now own) × (new ≡ calls)) → IsExact (history (with_file now own after) (reverse new))
    exact (Ok x) inside before one none = subst IsExact (sym (changed one)) (makes_made kind at bytes (reads past file) inside, before)
    exact (Err x) inside before one none =
        let same : history (with_file now own after) (reverse new) ≡ past =
        ap₂ (λ (l : List ℕ) (cs : List Call). history (with_file now own l) (reverse cs)) none.0 none.1
        ∙ ap (λ (f : Files). history f (reverse calls)) (unchanged now own)
        ∙ is in
        subst IsExact (sym same) before

-- what a walk back makes of one call: of one of the file's own, of a sync of it, and of another's
abbrev chosen : Bool → Bool → List ℕ → List ℕ → List ℕ → List ℕ
chosen own sync here again other = elim own [
  | true ↦ elim sync [
    | true ↦ here
    | false ↦ again
  ]
  | false ↦ other
]

one_back : (anew : Change → List ℕ → List ℕ) (call_file file : Which) (kind : Kind) (at count : ℕ) (now : Files) (bytes : List ℕ) (past : Past) (older : List Call)
    → since_sync anew past.first past.steps file ≡ back anew file older (file_of (with_file now call_file bytes) file)
    → since_sync anew past.first (stepped past call_file (change_by kind at count) (file_of now call_file)).steps file
    ≡ chosen (is_same call_file file) (is_sync kind) (file_of now file) (anew (change_by kind at count) (back anew file older bytes)) (back anew file older (file_of now file))
one_back anew Extent Extent Write at count now bytes past older before = ap (anew (Wrote at count)) before
one_back anew Extent Extent Truncation at count now bytes past older before = ap (anew (CutTo at)) before
one_back anew Extent Extent Sync at count now bytes past older before = refl
one_back anew Log Log Write at count now bytes past older before = ap (anew (Wrote at count)) before
one_back anew Log Log Truncation at count now bytes past older before = ap (anew (CutTo at)) before
one_back anew Log Log Sync at count now bytes past older before = refl
one_back anew Extent Log kind at count now bytes past older before = before
one_back anew Log Extent kind at count now bytes past older before = before

-- one call of a walk back, at the bytes that its own file holds
own_bytes : (anew : Change → List ℕ → List ℕ) (call : Call) (file : Which) (now : Files) (older : List Call)
    → chosen (is_same call.file file) (is_sync call.kind) (file_of now file) (anew (change_of call) (back anew file older (undone call (file_of now call.file)))) (back anew file older (file_of now file))
    ≡ back anew file (call ∷ older) (file_of now file)
own_bytes anew call file now older = own call.file file
  where
    own : (call_file file : Which)
        → chosen (is_same call_file file) (is_sync call.kind) (file_of now file) (anew (change_of call) (back anew file older (undone call (file_of now call_file)))) (back anew file older (file_of now file))
        ≡ chosen (is_same call_file file) (is_sync call.kind) (file_of now file) (anew (change_of call) (back anew file older (undone call (file_of now file)))) (back anew file older (file_of now file))
    own Extent Extent = refl
    own Extent Log = refl
    own Log Extent = refl
    own Log Log = refl

-- the walk back over the calls gives the file as the steps say
pub back_is : (anew : Change → List ℕ → List ℕ) (now : Files) (calls : List Call) (file : Which)
    → since_sync anew (history now calls).first (history now calls).steps file ≡ back anew file calls (file_of now file)
back_is anew now [] file = refl
back_is anew now (call ∷ older) file =
    let bytes = undone call (file_of now call.file) in
    let before = with_file now call.file bytes in
    one_back anew call.file file call.kind call.at call.count now bytes (history before older) older (back_is anew before older file)
    ∙ own_bytes anew call file now older

pub image_is : (pick : Pick) (now : Files) (calls : List Call) (file : Which) → picked_file pick (history now calls) file ≡ image_back pick file calls (file_of now file)
image_is Old now calls file = back_is (λ _ old. old) now calls file
image_is New now calls file = reads_now now calls file
image_is (TornTo byte) now calls file = back_is (torn_to byte) now calls file

-- the same, where the calls are seen through a slice
pub image_of : (pick : Pick) (now : Files) (calls seen : List Call) (past : Past) (file : Which) (image : List ℕ) → seen ≡ calls → history now (reverse calls) ≡ past
    → image ≡ image_back pick file (reverse seen) (file_of now file) → image ≡ picked_file pick past file
image_of pick now calls seen past file image same is left =
    left
    ∙ ap (λ (cs : List Call). image_back pick file (reverse cs) (file_of now file)) same
    ∙ sym (image_is pick now (reverse calls) file)
    ∙ ap (λ (p : Past). picked_file pick p file) is

abbrev pub files : List ℕ → List ℕ → Files
files extent log = record { extent = extent; log = log }

-- changes that are done anew by doing nothing
pub nothing_anew : (file : Which) (calls : List Call) (bytes : List ℕ) → done_anew (λ _ old. old) file calls bytes ≡ bytes
nothing_anew file [] bytes = refl
nothing_anew file (call ∷ later) bytes = ap (done_anew (λ _ old. old) file later) (either (is_same call.file file)) ∙ nothing_anew file later bytes
  where
    either : (b : Bool) → cond b bytes bytes ≡ bytes
    either true = refl
    either false = refl
