use Rattle.extent_pages.proofs.Ways.{chain_reads, chain_takes, extent_reads, extent_takes}
use Rattle.extent_pages.proofs.Files.{opens, opened}
use Rattle.extent_pages.proofs.laws.extents_lie.Goals as goal

pub returns-clause-chain_lies : goal.returns-clause-chain_lies
returns-clause-chain_lies c book taken page chain e =
    let begins = chain_takes book taken page chain e in
    (begins.is, begins.first)

pub returns-clause-chain_reads : goal.returns-clause-chain_reads
returns-clause-chain_reads c book taken chain is = chain_reads book taken chain is

pub returns-clause-extent_lies : goal.returns-clause-extent_lies
returns-clause-extent_lies c book page extent e = extent_takes book page extent e

pub returns-clause-extent_reads : goal.returns-clause-extent_reads
returns-clause-extent_reads c book page extent laid = extent_reads book page extent laid

pub returns-clause-file_lies : goal.returns-clause-file_lies
returns-clause-file_lies c file extent e = opened file extent e

pub returns-clause-file_reads : goal.returns-clause-file_reads
returns-clause-file_reads c file extent is = opens file extent is
