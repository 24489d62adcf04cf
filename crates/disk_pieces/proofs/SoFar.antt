-- How far the writing of pieces has come.
use Rattle.std.proofs.Common.{◌≡◌, ℕ, ◌≤◌, List, [], ◌∷◌, ◌++◌, length, Result, Ok, Err, refl, sym, ◌∙◌, subst, inl, inr, arith, append_assoc, append-nil}
use Rattle.gem_disk.specs.declared.disk.Which.TheVariants.{Extent}
use Rattle.gem_disk.specs.Disk.{Wrote, Past, reads, stepped, placed, Writes}
use Rattle.gem_disk.proofs.Leaves.{torn_by_placing}
use Rattle.disk_pieces.specs.Pieces.{Piece, end_of, Reach, Ascend, Kept, AllMiss, Keeps, Stand}
use Rattle.disk_pieces.specs.Crashes.{IsLonger, OnlyLeaves}
use Rattle.disk_pieces.proofs.Crashes.{only_written}
use Rattle.disk_pieces.proofs.Pieces.{EndBy, end_later, end_more, stand_more, stand_torn, placed_stands, size_placed, keeps_torn}

-- The pieces that stand end by the offset at which the next one may begin.
pub record StandTo (done rest : List Piece) (file : List ℕ) : Type 0 where
  pub next : ℕ
  pub ascend : Ascend next rest
  pub stand : Stand file done
  pub ends : EndBy next done

-- Of these pieces the first ones are written, and the rest is left.
pub record SoFar (pieces rest : List Piece) (old now : Past) : Type 0 where
  pub done : List Piece
  pub whole : pieces ≡ done ++ rest
  pub reach : Reach (length (reads now Extent)) rest
  pub longer : IsLonger old now
  pub kept : (kept : Kept) (file : List ℕ) (before : Past) → AllMiss kept pieces → OnlyLeaves (Keeps kept file) before old
      → AllMiss kept rest × OnlyLeaves (Keeps kept file) before now
  pub stand : (from : ℕ) → Ascend from pieces → StandTo done rest (reads now Extent)

pub none_written : (pieces : List Piece) (old : Past) → Reach (length (reads old Extent)) pieces → SoFar pieces pieces old old
none_written pieces old reach = record {
  done = [];
  whole = refl;
  reach = reach;
  longer = omega arith;
  kept = λ kept file before miss only. (miss, only);
  stand = λ from ascend. record { next = from; ascend = ascend; stand = tt; ends = tt };
}

module _ (pieces behind : List Piece) (piece : Piece) (old mid : Past) (so_far : SoFar pieces (piece ∷ behind) old mid) where
  pub next_reaches : piece.at ≤ length (reads mid Extent)
  next_reaches = so_far.reach.0

  abbrev written : List ℕ
  written = placed piece.at piece.bytes (reads mid Extent)

  abbrev after : Past
  after = stepped mid Extent (Wrote piece.at (length piece.bytes)) written

  still_kept : (new : Past) {T E : Type 0} (result : Result T E) → Writes Extent piece.at piece.bytes mid result new → (kept : Kept) (file : List ℕ) (before : Past) → AllMiss kept pieces
      → OnlyLeaves (Keeps kept file) before old → OnlyLeaves (Keeps kept file) before new
  still_kept new result writes kept file before miss only =
      let has = so_far.kept kept file before miss only in
      only_written (Keeps kept file) before mid has.1 piece.at piece.bytes (λ d c keeps torn. keeps_torn kept file d c piece.at (length piece.bytes) has.0.0 keeps torn) next_reaches new result writes

  one_after : SoFar pieces behind old after
  one_after = record {
    done = so_far.done ++ piece ∷ [];
    whole = so_far.whole ∙ sym (append_assoc so_far.done (piece ∷ []) behind);
    reach = subst (λ (m : ℕ). Reach m behind) (sym (size_placed piece (reads mid Extent) next_reaches)) so_far.reach.1;
    longer = let size = size_placed piece (reads mid Extent) next_reaches in omega (arith, size, so_far.longer);
    kept = λ kept file before miss only. ((so_far.kept kept file before miss only).0.1, still_kept after {T = Unit {0}} {E = Unit {0}} (Ok tt) refl kept file before miss only);
    stand = λ from ascend.
        let to = so_far.stand from ascend in
        record {
          next = end_of piece;
          ascend = to.ascend.1;
          stand = stand_more written so_far.done piece (stand_torn piece.at (length piece.bytes) (reads mid Extent) written so_far.done (ends_at to) (torn_by_placing piece.at piece.bytes (reads mid Extent) next_reaches) to.stand)
              (placed_stands piece (reads mid Extent) next_reaches);
          ends = end_more to.next so_far.done piece to.ascend.0 to.ends;
        };
  }
    where
      ends_at : (to : StandTo so_far.done (piece ∷ behind) (reads mid Extent)) → EndBy piece.at so_far.done
      ends_at to = end_later to.next piece.at so_far.done to.ascend.0 to.ends

  -- one piece more is written
  pub one_more : (new : Past) → new ≡ after → SoFar pieces behind old new
  one_more new is = subst (SoFar pieces behind old) (sym is) one_after

-- a write that failed
pub failed_kept : {T E : Type 0} (pieces behind : List Piece) (piece : Piece) (old mid new : Past) (result : Result T E) → SoFar pieces (piece ∷ behind) old mid → Writes Extent piece.at piece.bytes mid result new
    → (kept : Kept) (file : List ℕ) (before : Past) → AllMiss kept pieces → OnlyLeaves (Keeps kept file) before old → OnlyLeaves (Keeps kept file) before new
failed_kept pieces behind piece old mid new result so_far writes = still_kept pieces behind piece old mid so_far new result writes

longer_written : {T E : Type 0} (at : ℕ) (bytes : List ℕ) (mid new : Past) (result : Result T E) → at ≤ length (reads mid Extent) → Writes Extent at bytes mid result new → IsLonger mid new
longer_written at bytes mid new (Ok x) inside is = subst (IsLonger mid) (sym is) (torn_by_placing at bytes (reads mid Extent) inside).no_shorter
longer_written at bytes mid new (Err x) inside (inl same) = subst (IsLonger mid) (sym same) (omega arith)
longer_written at bytes mid new (Err x) inside (inr (now, torn, is)) = subst (IsLonger mid) (sym is) torn.no_shorter

pub failed_longer : {T E : Type 0} (pieces behind : List Piece) (piece : Piece) (old mid new : Past) (result : Result T E) → SoFar pieces (piece ∷ behind) old mid → Writes Extent piece.at piece.bytes mid result new → IsLonger old new
failed_longer pieces behind piece old mid new result so_far writes =
    let more = longer_written piece.at piece.bytes mid new result so_far.reach.0 writes in omega (arith, so_far.longer, more)

-- nothing is left
pub all_stand : (pieces : List Piece) (old now : Past) → SoFar pieces [] old now → (from : ℕ) → Ascend from pieces → Stand (reads now Extent) pieces
all_stand pieces old now so_far from ascend = subst (Stand (reads now Extent)) (sym (so_far.whole ∙ append-nil so_far.done)) (so_far.stand from ascend).stand
