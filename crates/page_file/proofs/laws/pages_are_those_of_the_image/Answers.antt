use Rattle.page_file.proofs.ImagePages.{rest_many, rest_root, rest_found}
use Rattle.page_file.proofs.laws.pages_are_those_of_the_image.Goals as goal

pub returns-clause-pages : goal.returns-clause-pages
returns-clause-pages c past pages image number next rest is = rest_many past pages next rest image number is

pub returns-clause-changed : goal.returns-clause-changed
returns-clause-changed c past pages image number is = rest_root past pages is.next is.at_rest image number is.holds

pub returns-clause-found : goal.returns-clause-found
returns-clause-found c past pages image number before are rest = rest_found past pages image number before are rest
