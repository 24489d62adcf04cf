use Rattle.gem_image.proofs.Objects.{others_stay, last_stands, parts}
use Rattle.gem_image.proofs.laws.put_objects.Goals as goal

pub returns-clause-other_names : goal.returns-clause-other_names
returns-clause-other_names c = others_stay

pub returns-clause-last : goal.returns-clause-last
returns-clause-last c = last_stands

pub returns-clause-parts : goal.returns-clause-parts
returns-clause-parts c = parts
