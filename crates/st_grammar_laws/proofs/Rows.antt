-- Examples: the trees of texts, and the places where texts fail with the rules that they break.
use Rattle.std.specs.Prelude.{◌≡◌, refl, ℕ, pos, negsuc, true, false, codes, Some, None, Result, Ok, Err, List, [], ◌∷◌}
use Rattle.std.specs.Prelude.{replicate}
use Rattle.texts.specs.Bytes.{Bytes}
use Rattle.st_tree.specs.Trees.{int, sym, nothing, array, no_constants, a_constant, name, constant, block, closure}
use Rattle.st_tree.specs.Trees.{Expression, expression, send, statement, Statements, no_statements, a_statement}
use Rattle.st_tree.specs.Trees.{no_sends, a_send, no_expressions, an_expression, Program}
use Rattle.st_grammar.specs.Tokens.{p2}
use Rattle.st_grammar.specs.Lexed.{tokens_of}
use Rattle.st_grammar.specs.Grammar.{GrammarRule, p4, p5, p6, p7, p8, p9, chunk, method}
use Rattle.st_grammar.specs.Fails.{of_token, of_grammar}
use Rattle.st_grammar_laws.specs.TreeOf.{TextFault, tree_of}

abbrev tree : Program → Result Program TextFault
tree program = Ok program

abbrev fault : (place : ℕ) → GrammarRule → Result Program TextFault
fault place rule = Err (record { place = place; rule = of_grammar rule })

abbrev number_tree : ℕ → Expression
number_tree n = expression [] (constant (int (pos n))) no_sends no_sends

abbrev name_tree : Bytes → Expression
name_tree x = expression [] (name x) no_sends no_sends

abbrev chunk_of : List Bytes → Statements → Result Program TextFault
chunk_of ts body = tree (record { selector = None; params = []; temps = ts; body = body })

abbrev one : Expression → Statements
one e = a_statement (statement false e) no_statements

keyword_after_binary : tree_of chunk (codes "3 + 4 max: 9") ≡ chunk_of [] (one (expression [] (constant (int (pos 3)))
    (a_send (send (codes "+") (an_expression (number_tree 4) no_expressions))
    (a_send (send (codes "max:") (an_expression (number_tree 9) no_expressions)) no_sends)) no_sends))
unfolding tree_of tokens_of
keyword_after_binary = refl

two_keywords : tree_of chunk (codes "d at: 1 + 2 put: -3.") ≡ chunk_of [] (one (expression [] (name (codes "d"))
    (a_send (send (codes "at:put:")
    (an_expression (expression [] (constant (int (pos 1)))
    (a_send (send (codes "+") (an_expression (number_tree 2) no_expressions)) no_sends) no_sends)
    (an_expression (expression [] (constant (int (negsuc 2))) no_sends no_sends) no_expressions))) no_sends) no_sends))
unfolding tree_of tokens_of
two_keywords = refl

cascade_tree : tree_of chunk (codes "a b: 1; c; + 2") ≡ chunk_of [] (one (expression [] (name (codes "a"))
    (a_send (send (codes "b:") (an_expression (number_tree 1) no_expressions)) no_sends)
    (a_send (send (codes "c") no_expressions)
    (a_send (send (codes "+") (an_expression (number_tree 2) no_expressions)) no_sends))))
unfolding tree_of tokens_of
cascade_tree = refl

bar_left_out : tree_of chunk (codes "[:x] ")
    ≡ chunk_of [] (one (expression [] (block (closure (codes "x" ∷ []) [] no_statements)) no_sends no_sends))
unfolding tree_of tokens_of
bar_left_out = refl

assigned_in_block : tree_of chunk (codes "| a | a := [:x | | t | t := x. ^t]")
    ≡ chunk_of (codes "a" ∷ []) (one (expression (codes "a" ∷ [])
    (block (closure (codes "x" ∷ []) (codes "t" ∷ [])
    (a_statement (statement false (expression (codes "t" ∷ []) (name (codes "x")) no_sends no_sends))
    (a_statement (statement true (name_tree (codes "t"))) no_statements))))
    no_sends no_sends))
unfolding tree_of tokens_of
assigned_in_block = refl

array_tree : tree_of chunk (codes "#(1 -2 - 3 at:put: at: nil (a |))")
    ≡ chunk_of [] (one (expression []
    (constant (array (a_constant (int (pos 1)) (a_constant (int (negsuc 1)) (a_constant (sym (codes "-"))
    (a_constant (int (pos 3)) (a_constant (sym (codes "at:put:"))
    (a_constant (sym (codes "at:"))
    (a_constant nothing (a_constant
    (array (a_constant (sym (codes "a")) (a_constant (sym (codes "|")) no_constants))) no_constants))))))))))
    no_sends no_sends))
unfolding tree_of tokens_of
array_tree = refl

binary_minus : tree_of chunk (codes "3 -4")
    ≡ chunk_of [] (one (expression [] (constant (int (pos 3)))
    (a_send (send (codes "-") (an_expression (number_tree 4) no_expressions)) no_sends) no_sends))
unfolding tree_of tokens_of
binary_minus = refl

binary_minus_negative : tree_of chunk (codes "3 - -4") ≡ chunk_of [] (one (expression [] (constant (int (pos 3)))
    (a_send (send (codes "-") (an_expression
    (expression [] (constant (int (negsuc 3))) no_sends no_sends) no_expressions)) no_sends) no_sends))
unfolding tree_of tokens_of
binary_minus_negative = refl

method_tree : tree_of method (codes "at: i put: x ^super at: i put: x") ≡ tree (record {
  selector = Some (codes "at:put:");
  params = codes "i" ∷ codes "x" ∷ [];
  temps = [];
  body = a_statement (statement true
      (expression [] (name (codes "super"))
      (a_send (send (codes "at:put:")
      (an_expression (name_tree (codes "i"))
      (an_expression (name_tree (codes "x")) no_expressions))) no_sends) no_sends)) no_statements;
})
unfolding tree_of tokens_of
method_tree = refl

binary_pattern_tree : tree_of method (codes "| x ^self or: [x]") ≡ tree (record {
  selector = Some (codes "|");
  params = codes "x" ∷ [];
  temps = [];
  body = a_statement (statement true
      (expression [] (name (codes "self"))
      (a_send (send (codes "or:")
      (an_expression (expression []
      (block (closure [] [] (one
      (name_tree (codes "x"))))) no_sends no_sends) no_expressions)) no_sends) no_sends)) no_statements;
})
unfolding tree_of tokens_of
binary_pattern_tree = refl

empty_chunk : tree_of chunk [] ≡ chunk_of [] no_statements
unfolding tree_of tokens_of
empty_chunk = refl

-- faults
argument_missing : tree_of chunk (codes "3 +") ≡ fault 3 p4
unfolding tree_of tokens_of
argument_missing = refl

number_apart : tree_of chunk (codes "3 + - 4") ≡ fault 6 p4
unfolding tree_of tokens_of
number_apart = refl

too_deep : tree_of chunk (replicate 201 40) ≡ fault 200 p9
unfolding tree_of tokens_of
too_deep = refl

not_too_deep : tree_of chunk (replicate 200 40) ≡ fault 200 p4
unfolding tree_of tokens_of
not_too_deep = refl

arrays_too_deep : tree_of chunk (35 ∷ replicate 201 40) ≡ fault 201 p9
unfolding tree_of tokens_of
arrays_too_deep = refl

super_assigned : tree_of chunk (codes "super := 3") ≡ fault 6 p8
unfolding tree_of tokens_of
super_assigned = refl

parameter_assigned : tree_of method (codes "at: i [i := 3]") ≡ fault 9 p8
unfolding tree_of tokens_of
parameter_assigned = refl

hidden_parameter_assigned : tree_of chunk (codes "[:i | [| i | i := 3]. i := 3]") ≡ fault 24 p8
unfolding tree_of tokens_of
hidden_parameter_assigned = refl

super_alone : tree_of chunk (codes "3 + super + 4") ≡ fault 10 p4
unfolding tree_of tokens_of
super_alone = refl

twice_among_temps : tree_of chunk (codes "| a b a | 3") ≡ fault 6 p7
unfolding tree_of tokens_of
twice_among_temps = refl

parameter_among_temps : tree_of method (codes "at: i | i |") ≡ fault 8 p7
unfolding tree_of tokens_of
parameter_among_temps = refl

pseudo_declared : tree_of chunk (codes "[:self | 3]") ≡ fault 2 p7
unfolding tree_of tokens_of
pseudo_declared = refl

square_missing_in_round : tree_of chunk (codes "([3)") ≡ fault 3 p5
unfolding tree_of tokens_of
square_missing_in_round = refl

both_missing : tree_of chunk (codes "([3") ≡ fault 3 p5
unfolding tree_of tokens_of
both_missing = refl

round_missing : tree_of chunk (codes "(3]") ≡ fault 2 p6
unfolding tree_of tokens_of
round_missing = refl

array_end_missing : tree_of chunk (codes "#(3 ; 4)") ≡ fault 4 p6
unfolding tree_of tokens_of
array_end_missing = refl

second_keyword : tree_of chunk (codes "a foo; bar: 1 baz")
    ≡ chunk_of [] (one (expression [] (name (codes "a")) (a_send (send (codes "foo") no_expressions) no_sends)
    (a_send (send (codes "bar:")
    (an_expression (expression [] (constant (int (pos 1)))
    (a_send (send (codes "baz") no_expressions) no_sends) no_sends) no_expressions)) no_sends)))
unfolding tree_of tokens_of
second_keyword = refl

cascade_ends : tree_of chunk (codes "a foo; bar baz") ≡ fault 11 p4
unfolding tree_of tokens_of
cascade_ends = refl

after_return : tree_of chunk (codes "^3 . 4") ≡ fault 5 p4
unfolding tree_of tokens_of
after_return = refl

-- a bad token comes before all else
string_without_end : tree_of chunk (codes "(3 ] 'a") ≡ Err (record { place = 5; rule = of_token p2 })
unfolding tree_of tokens_of
string_without_end = refl
