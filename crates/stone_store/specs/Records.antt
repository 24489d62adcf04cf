-- The records of a log behind a root, one after the other.
use Rattle.std.specs.Prelude.{ℕ, ◌+◌, ◌==◌, nat_lt, if◌then◌else◌, Option, Some, None}
use Rattle.gem_image.specs.Image.{with_objects}
use Rattle.tran_log.specs.declared.logged.Logged.{Logged}
use Rattle.stone_store.specs.declared.parts.FoundImage.{FoundImage}
use Rattle.stone_store.specs.declared.records.Restored.{Restored}
use Rattle.stone_store.specs.Store.{is_after}

-- where the first record behind a root stands, unless it is that of the next commit
abbrev pub next_at : ℕ → Logged → Option ℕ
next_at number one = if one.effect.number == number + 1 then None else Some one.at

-- where a record stands, where it is of an earlier commit than the root's
abbrev pub old_at : ℕ → Logged → Option ℕ
old_at number one = if nat_lt one.effect.number number then Some one.at else None

-- what is found with one record more, where it is that of a commit after the root's
abbrev pub after_record : (root : ℕ) → Logged → FoundImage → FoundImage
after_record root one found = if is_after root one
    then record {
      image = with_objects found.image one.effect.objects;
      number = one.effect.number;
    }
    else found

-- Where the record stands for which a log doesn't fit behind the root, with one record more. Once
-- the number is beyond the root's, a record behind the root was seen, and no later one counts.
abbrev pub misfit_with : (root number : ℕ) → Logged → Option ℕ → Option ℕ
misfit_with root number one older = if nat_lt root number
    then older
    else (if is_after root one then next_at root one else old_at root one)

-- what is restored with one record more
abbrev pub with_record : (root : ℕ) → Logged → Restored → Restored
with_record root one restored = record {
  found = after_record root one restored.found;
  misfit = misfit_with root restored.found.number one restored.misfit;
}
