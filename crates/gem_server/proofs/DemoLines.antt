-- The lines that tell of a load, as they are put together.
use Rattle.std.proofs.Common.{◌≡◌, ℕ, ◌+◌, ◌++◌, sym, ap, ap₂, codes, ◌∙◌, append_assoc}
use Rattle.std.specs.Fmt.{decimal}
use Rattle.gem_object.specs.texts.Bytes.{Bytes}
use Rattle.load_maker.specs.Numbers.{load_sum}
use Rattle.gem_server.specs.Demo.{commits_of, demo_lines}

-- pieces that are joined from the left
twelve_pieces : (a b c d e f g h i j k l : Bytes)
    → a ++ b ++ c ++ d ++ e ++ f ++ g ++ h ++ i ++ j ++ k ++ l ≡ a ++ (b ++ (c ++ (d ++ (e ++ (f ++ (g ++ (h ++ (i ++ (j ++ (k ++ l))))))))))
twelve_pieces a b c d e f g h i j k l =
    append_assoc (a ++ b ++ c ++ d ++ e ++ f ++ g ++ h ++ i ++ j) k l
    ∙ append_assoc (a ++ b ++ c ++ d ++ e ++ f ++ g ++ h ++ i) j (k ++ l)
    ∙ append_assoc (a ++ b ++ c ++ d ++ e ++ f ++ g ++ h) i (j ++ (k ++ l))
    ∙ append_assoc (a ++ b ++ c ++ d ++ e ++ f ++ g) h (i ++ (j ++ (k ++ l)))
    ∙ append_assoc (a ++ b ++ c ++ d ++ e ++ f) g (h ++ (i ++ (j ++ (k ++ l))))
    ∙ append_assoc (a ++ b ++ c ++ d ++ e) f (g ++ (h ++ (i ++ (j ++ (k ++ l)))))
    ∙ append_assoc (a ++ b ++ c ++ d) e (f ++ (g ++ (h ++ (i ++ (j ++ (k ++ l))))))
    ∙ append_assoc (a ++ b ++ c) d (e ++ (f ++ (g ++ (h ++ (i ++ (j ++ (k ++ l)))))))
    ∙ append_assoc (a ++ b) c (d ++ (e ++ (f ++ (g ++ (h ++ (i ++ (j ++ (k ++ l))))))))
    ∙ append_assoc a b (c ++ (d ++ (e ++ (f ++ (g ++ (h ++ (i ++ (j ++ (k ++ l)))))))))

thirteen_pieces : (a b c d e f g h i j k l m : Bytes)
    → a ++ b ++ c ++ d ++ e ++ f ++ g ++ h ++ i ++ j ++ k ++ l ++ m ≡ a ++ (b ++ (c ++ (d ++ (e ++ (f ++ (g ++ (h ++ (i ++ (j ++ (k ++ (l ++ m)))))))))))
thirteen_pieces a b c d e f g h i j k l m =
    append_assoc (a ++ b ++ c ++ d ++ e ++ f ++ g ++ h ++ i ++ j ++ k) l m
    ∙ append_assoc (a ++ b ++ c ++ d ++ e ++ f ++ g ++ h ++ i ++ j) k (l ++ m)
    ∙ append_assoc (a ++ b ++ c ++ d ++ e ++ f ++ g ++ h ++ i) j (k ++ (l ++ m))
    ∙ append_assoc (a ++ b ++ c ++ d ++ e ++ f ++ g ++ h) i (j ++ (k ++ (l ++ m)))
    ∙ append_assoc (a ++ b ++ c ++ d ++ e ++ f ++ g) h (i ++ (j ++ (k ++ (l ++ m))))
    ∙ append_assoc (a ++ b ++ c ++ d ++ e ++ f) g (h ++ (i ++ (j ++ (k ++ (l ++ m)))))
    ∙ append_assoc (a ++ b ++ c ++ d ++ e) f (g ++ (h ++ (i ++ (j ++ (k ++ (l ++ m))))))
    ∙ append_assoc (a ++ b ++ c ++ d) e (f ++ (g ++ (h ++ (i ++ (j ++ (k ++ (l ++ m)))))))
    ∙ append_assoc (a ++ b ++ c) d (e ++ (f ++ (g ++ (h ++ (i ++ (j ++ (k ++ (l ++ m))))))))
    ∙ append_assoc (a ++ b) c (d ++ (e ++ (f ++ (g ++ (h ++ (i ++ (j ++ (k ++ (l ++ m)))))))))
    ∙ append_assoc a b (c ++ (d ++ (e ++ (f ++ (g ++ (h ++ (i ++ (j ++ (k ++ (l ++ m))))))))))

-- the last piece stands behind the twelve before it
with_last : (a b c d e f g h i j k l m : Bytes)
    → (a ++ (b ++ (c ++ (d ++ (e ++ (f ++ (g ++ (h ++ (i ++ (j ++ (k ++ l))))))))))) ++ m ≡ a ++ (b ++ (c ++ (d ++ (e ++ (f ++ (g ++ (h ++ (i ++ (j ++ (k ++ (l ++ m)))))))))))
with_last a b c d e f g h i j k l m =
    ap (λ (t : Bytes). t ++ m) (sym (twelve_pieces a b c d e f g h i j k l)) ∙ thirteen_pieces a b c d e f g h i j k l m

-- the lines with the numbers as they were counted
pub lines_are : (seed sessions rounds bag counter : ℕ) → bag ≡ commits_of sessions rounds → counter ≡ load_sum seed sessions rounds
    → (codes "demo seed " ++ (decimal seed ++ (codes " sessions " ++ (decimal sessions ++ (codes " rounds " ++ (decimal rounds
    ++ (codes "\ncommits " ++ (decimal (1 + bag) ++ (codes "\ncounter " ++ (decimal counter ++ (codes "\nbag " ++ decimal bag)))))))))))
    ++ codes "\n" ≡ demo_lines seed sessions rounds
lines_are seed sessions rounds bag counter commits sum =
    with_last (codes "demo seed ") (decimal seed) (codes " sessions ") (decimal sessions) (codes " rounds ") (decimal rounds)
    (codes "\ncommits ") (decimal (1 + bag)) (codes "\ncounter ") (decimal counter) (codes "\nbag ") (decimal bag) (codes "\n")
    ∙ ap₂ (λ (b n : ℕ). codes "demo seed " ++ (decimal seed
    ++ (codes " sessions " ++ (decimal sessions ++ (codes " rounds " ++ (decimal rounds ++ (codes "\ncommits " ++ (decimal (1 + b)
    ++ (codes "\ncounter " ++ (decimal n ++ (codes "\nbag " ++ (decimal b ++ codes "\n")))))))))))) commits sum
