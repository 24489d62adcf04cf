use Rattle.st_machine.proofs.names.put_known.Goals as goal

pub returns-in-Ok-clause-stands : goal.returns-in-Ok-clause-stands
returns-in-Ok-clause-stands g c = λ is. record {
  answer = c.in-Some.value;
  ran = c.in-Some.ensures;
  stands = c.in-Ok.ensures.pushed;
}
