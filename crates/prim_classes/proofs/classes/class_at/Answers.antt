use Rattle.gem_image.specs.Image.{contents_of}
use Rattle.prim_classes.proofs.ClassFacts.{class_found}
use Rattle.prim_classes.proofs.classes.class_at.Goals as goal

pub returns-in-Class : goal.returns-in-Class
returns-in-Class g c = λ object there. class_found (contents_of c.in-Some.object.now) c.in-Some.ensures object there c.in-Class.class c.in-Class.is
