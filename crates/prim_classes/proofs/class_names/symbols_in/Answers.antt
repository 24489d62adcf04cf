use Rattle.std.proofs.Common.{◌≡◌, ◌+◌, ◌++◌, List, drop, option_map, subst, sym, arith}
use Rattle.gem_object.specs.texts.Bytes.{Bytes as Text}
use Rattle.prim_rules.specs.Classes.{symbols_in}
use Rattle.prim_classes.proofs.Lists.{symbol_none, symbol_more}
use Rattle.prim_classes.proofs.class_names.symbols_in.Goals as goal

pub returns-in_default : goal.returns-in_default
returns-in_default c = symbol_none c.args.values.now c.loop-value.value-index c.value-item.result c.loop-value.names.items _ (omega arith) c.value-item.is
    c.in_default.not-Sym c.loop-value.invariant

pub loop-value-preserved : goal.loop-value-preserved
loop-value-preserved c =
    let At : List Text → Type 0 = λ names. symbols_in c.args.values.now
    ≡ option_map (λ rest. names ++ rest) (symbols_in (drop (c.loop-value.value-index + 1) c.args.values.now)) in
    subst At (sym c.in_ok-push.ensures.items) (symbol_more c.args.values.now c.loop-value.value-index c.value-item.result c.in-Sym.name
    c.in_ok-clone.field-0 c.loop-value.names.items _ (omega arith) c.value-item.is c.in-Sym.is c.in_ok-clone.ensures.cases c.loop-value.invariant)
