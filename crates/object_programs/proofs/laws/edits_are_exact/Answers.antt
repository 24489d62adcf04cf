use Rattle.gem_world.specs.Changes.{with_body, in_segment, put}
use Rattle.object_programs.specs.Atom.{edited}
use Rattle.object_programs.specs.Laws.{lacking}
use Rattle.object_programs.proofs.Exact as exact
use Rattle.object_programs.proofs.laws.edits_are_exact.Goals as goal

pub returns-clause-put_made : goal.returns-clause-put_made
returns-clause-put_made c name body setting world budget old there made fit =
    exact.leaves (edited name (with_body body) setting world) (put name (with_body body old) world) budget
    (exact.edited_made name old setting world (with_body body) there made fit)

pub returns-clause-put_written : goal.returns-clause-put_written
returns-clause-put_written c name body setting world budget old there ordinary fit =
    exact.leaves (edited name (with_body body) setting world) (put name (with_body body old) world) budget
    (exact.edited_written name old setting world (with_body body) there ordinary fit)

pub returns-clause-put_shared : goal.returns-clause-put_shared
returns-clause-put_shared c name body setting world budget old there unmade shared =
    exact.leaves (edited name (with_body body) setting world) (lacking name (with_body body old) setting world) budget
    (exact.edited_shared name old setting world (with_body body) there unmade shared)

pub returns-clause-put_unfit : goal.returns-clause-put_unfit
returns-clause-put_unfit c name body setting world budget old there unfit =
    exact.leaves (edited name (with_body body) setting world) (lacking name (with_body body old) setting world) budget
    (exact.edited_unfit name old setting world (with_body body) there unfit)

pub returns-clause-put_apart : goal.returns-clause-put_apart
returns-clause-put_apart c name body setting world budget none =
    exact.leaves (edited name (with_body body) setting world) world budget
    (exact.edited_apart name (with_body body) setting world none)

pub returns-clause-move_made : goal.returns-clause-move_made
returns-clause-move_made c name segment setting world budget old there made fit =
    exact.leaves (edited name (in_segment segment) setting world) (put name (in_segment segment old) world) budget
    (exact.edited_made name old setting world (in_segment segment) there made fit)

pub returns-clause-move_written : goal.returns-clause-move_written
returns-clause-move_written c name segment setting world budget old there ordinary fit =
    exact.leaves (edited name (in_segment segment) setting world) (put name (in_segment segment old) world) budget
    (exact.edited_written name old setting world (in_segment segment) there ordinary fit)

pub returns-clause-move_shared : goal.returns-clause-move_shared
returns-clause-move_shared c name segment setting world budget old there unmade shared =
    exact.leaves (edited name (in_segment segment) setting world) (lacking name (in_segment segment old) setting world) budget
    (exact.edited_shared name old setting world (in_segment segment) there unmade shared)

pub returns-clause-move_unfit : goal.returns-clause-move_unfit
returns-clause-move_unfit c name segment setting world budget old there unfit =
    exact.leaves (edited name (in_segment segment) setting world) (lacking name (in_segment segment old) setting world) budget
    (exact.edited_unfit name old setting world (in_segment segment) there unfit)

pub returns-clause-move_apart : goal.returns-clause-move_apart
returns-clause-move_apart c name segment setting world budget none =
    exact.leaves (edited name (in_segment segment) setting world) world budget
    (exact.edited_apart name (in_segment segment) setting world none)
