-- How the scopes of the parser are seen.
use Rattle.std.specs.Prelude.{List, [], ◌∷◌}
use Rattle.st_grammar.specs.Grammar.{Scope, scope}
use Rattle.st_parser.specs.declared.scopes.Scopes.{Scopes}
use Rattle.st_parser.specs.declared.scopes.Scopes.TheVariants.{Outside, Inside'}

abbrev pub scopes_seen : Scopes → List Scope
scopes_seen Outside = []
scopes_seen (Inside' params temps p outer) = scope params.now temps.now ∷ scopes_seen outer
