use Rattle.body_codec.proofs.Takes.{all_bytes}
use Rattle.extent_pages.proofs.Payloads.{directory_back, directory_takes, leaf_back, leaf_takes}
use Rattle.extent_pages.proofs.laws.payloads_read_back.Goals as goal

pub returns-clause-directory : goal.returns-clause-directory
returns-clause-directory c pages entries are = directory_back pages entries are

pub returns-clause-only_directory : goal.returns-clause-only_directory
returns-clause-only_directory c chain entries all e =
    let is = directory_takes chain entries (all_bytes chain.payload all) e in
    (is.are, is.spelled)

pub returns-clause-leaf : goal.returns-clause-leaf
returns-clause-leaf c leaf pages objects are = leaf_back leaf pages objects are

pub returns-clause-only_leaf : goal.returns-clause-only_leaf
returns-clause-only_leaf c leaf chain objects all e =
    let is = leaf_takes leaf chain objects (all_bytes chain.payload all) e in
    (is.are, is.spelled)
