use Rattle.std.specs.Prelude.{refl}
use Rattle.std.specs.Fmt.{digits}
use Rattle.prim_rules.specs.Texts.{is_symbol_token}
use Rattle.prim_rules.specs.Printing.{whole_text, print_text}
use Rattle.prim_rules.proofs.laws.values_are_printed.Goals as goal

pub returns-clause-negative : goal.returns-clause-negative
unfolding print_text whole_text is_symbol_token digits
returns-clause-negative c = λ setting state. refl

pub returns-clause-character : goal.returns-clause-character
unfolding print_text whole_text is_symbol_token digits
returns-clause-character c = λ setting state. refl

pub returns-clause-nothing : goal.returns-clause-nothing
unfolding print_text whole_text is_symbol_token digits
returns-clause-nothing c = λ setting state. refl

pub returns-clause-block : goal.returns-clause-block
unfolding print_text whole_text is_symbol_token digits
returns-clause-block c = λ setting state. refl

pub returns-clause-selector : goal.returns-clause-selector
unfolding print_text whole_text is_symbol_token digits
returns-clause-selector c = λ setting state. refl

pub returns-clause-word : goal.returns-clause-word
unfolding print_text whole_text is_symbol_token digits
returns-clause-word c = λ setting state. refl

pub returns-clause-binary : goal.returns-clause-binary
unfolding print_text whole_text is_symbol_token digits
returns-clause-binary c = λ setting state. refl

pub returns-clause-two_minus : goal.returns-clause-two_minus
unfolding print_text whole_text is_symbol_token digits
returns-clause-two_minus c = λ setting state. refl

pub returns-clause-gap : goal.returns-clause-gap
unfolding print_text whole_text is_symbol_token digits
returns-clause-gap c = λ setting state. refl

pub returns-clause-half : goal.returns-clause-half
unfolding print_text whole_text is_symbol_token digits
returns-clause-half c = λ setting state. refl

pub returns-clause-empty : goal.returns-clause-empty
unfolding print_text whole_text is_symbol_token digits
returns-clause-empty c = λ setting state. refl

pub returns-clause-paren : goal.returns-clause-paren
unfolding print_text whole_text is_symbol_token digits
returns-clause-paren c = λ setting state. refl

pub returns-clause-digit : goal.returns-clause-digit
unfolding print_text whole_text is_symbol_token digits
returns-clause-digit c = λ setting state. refl

pub returns-clause-quote : goal.returns-clause-quote
unfolding print_text whole_text is_symbol_token digits
returns-clause-quote c = λ setting state. refl

pub returns-clause-quoted_name : goal.returns-clause-quoted_name
unfolding print_text whole_text is_symbol_token digits
returns-clause-quoted_name c = λ setting state. refl
