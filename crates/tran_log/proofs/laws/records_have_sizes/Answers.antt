use Rattle.tran_log.proofs.Places.{size_is, chain_size, chain_places, logged_places, end_place, too_long}
use Rattle.tran_log.proofs.laws.records_have_sizes.Goals as goal

pub returns-clause-one : goal.returns-clause-one
returns-clause-one c = size_is

pub returns-clause-all : goal.returns-clause-all
returns-clause-all c = chain_size

pub returns-clause-places : goal.returns-clause-places
returns-clause-places c = chain_places

pub returns-clause-read : goal.returns-clause-read
returns-clause-read c = logged_places

pub returns-clause-end : goal.returns-clause-end
returns-clause-end c = end_place

pub returns-clause-long : goal.returns-clause-long
returns-clause-long c = too_long
