use Rattle.std.proofs.Common.{◌+◌, arith, rules, subst, sym}
use Rattle.std.proofs.lemmas.Bool.{ne_eqb}
use Rattle.st_lexer.proofs.Scans.{InString, string_plain, string_quote, string_doubled}
use Rattle.st_lexer.proofs.quotes.string_end.Goals as goal
use Rattle.st_lexer.proofs.quotes.string_end.Goals.{then-quoted+else-b-ne39, else-quoted+then-b-eq39}
use Rattle.st_lexer.proofs.quotes.string_end.Goals.{else-quoted+else-b-eq39}

pub loop-i-preserved : goal.loop-i-preserved
loop-i-preserved c = elim c.if-quoted.branch [
  | then-quoted+else-b-ne39 w ↦ rw (w.size-is, w.quoted-is)
      (string_doubled c.args.text.now c.loop-i.i c.loop-i.size (omega arith) (search rules)
      (subst (InString c.args.text.now c.loop-i.i c.loop-i.size) w.if-quoted.true c.loop-i.invariant))
  | else-quoted+then-b-eq39 w ↦ rw (w.size-is, w.quoted-is)
      (string_quote c.args.text.now c.loop-i.i c.loop-i.size (omega arith) (search rules)
      (subst (InString c.args.text.now c.loop-i.i c.loop-i.size) w.if-quoted.false c.loop-i.invariant))
  | else-quoted+else-b-eq39 w ↦ rw (w.size-is, w.quoted-is)
      (subst (InString c.args.text.now (c.loop-i.i + 1) (c.loop-i.size + 1)) (sym w.if-quoted.false)
      (string_plain c.args.text.now c.loop-i.i c.loop-i.size (omega arith) (ne_eqb _ 39 w.if-b-eq39.false)
      (subst (InString c.args.text.now c.loop-i.i c.loop-i.size) w.if-quoted.false c.loop-i.invariant)))
]
