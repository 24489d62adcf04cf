use Rattle.extent_pages.proofs.Back.{page_long, next_back, payload_back, page_filled, root_back, root_page_long}
use Rattle.extent_pages.proofs.laws.pages_read_back.Goals as goal

pub returns-clause-next : goal.returns-clause-next
returns-clause-next c next payload fits = next_back next payload fits

pub returns-clause-payload : goal.returns-clause-payload
returns-clause-payload c next payload short = payload_back next payload short

pub returns-clause-filled : goal.returns-clause-filled
returns-clause-filled c next payload fits = page_filled next payload fits

pub returns-clause-size : goal.returns-clause-size
returns-clause-size c next payload short = page_long next payload short

pub returns-clause-root : goal.returns-clause-root
returns-clause-root c root fits = root_back root fits

pub returns-clause-root_size : goal.returns-clause-root_size
returns-clause-root_size c root = root_page_long root
