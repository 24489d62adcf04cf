use Rattle.gem_language.proofs.Trees.{name_read, assignment_read, literal_read}
use Rattle.gem_language.proofs.tree_laws.names_and_literals.Goals as goal

pub returns-clause-name : goal.returns-clause-name
returns-clause-name c depth setting place frame state text is = name_read depth setting place frame state text is

pub returns-clause-assignment : goal.returns-clause-assignment
returns-clause-assignment c depth setting place frame state text answer is =
    assignment_read depth setting place frame state text answer is

pub returns-clause-literal : goal.returns-clause-literal
returns-clause-literal c depth setting place frame state tree is = literal_read depth setting place frame state tree is
