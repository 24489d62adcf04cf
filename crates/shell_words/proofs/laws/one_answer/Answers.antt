use Rattle.shell_words.proofs.OneAnswer.{one_script, one_rule, never_both, always}
use Rattle.shell_words.proofs.laws.one_answer.Goals as goal

pub returns-clause-scripts : goal.returns-clause-scripts
returns-clause-scripts c = one_script

pub returns-clause-rules : goal.returns-clause-rules
returns-clause-rules c = one_rule

pub returns-clause-never_both : goal.returns-clause-never_both
returns-clause-never_both c = never_both

pub returns-clause-always : goal.returns-clause-always
returns-clause-always c = always
