use Rattle.gem_image.proofs.Given.{none_without_object, none_without_segment, none_without_user}
use Rattle.gem_image.proofs.laws.no_rights.Goals as goal

pub returns-clause-object : goal.returns-clause-object
returns-clause-object c = none_without_object

pub returns-clause-segment : goal.returns-clause-segment
returns-clause-segment c = none_without_segment

pub returns-clause-user : goal.returns-clause-user
returns-clause-user c = none_without_user
