-- A disk with nothing pending is one of its crash images, and the only one.
use Rattle.std.proofs.Common.{◌≡◌, [], refl, sym, subst}
use Rattle.gem_disk.specs.Disk.{Files, Past, as_read, CrashImages}
use Rattle.stone_store.specs.Left.{FilesStandFor}
use Rattle.gem_server.specs.Course.{IsHonest}

abbrev begun : Files → Past
begun first = record { first = first; steps = [] }

only_one : (first files : Files) → CrashImages (begun first) files → as_read (begun first) ≡ files
only_one first files left = λ i. record { extent = sym left.extent i; log = sym left.log i }

pub new_is_honest : (first : Files) → IsHonest (record { first = first; steps = [] })
new_is_honest first = record {
  honest = record { extent = refl; log = refl };
  each = λ image number stands files left. subst (FilesStandFor image number) (only_one first files left) stands;
}
