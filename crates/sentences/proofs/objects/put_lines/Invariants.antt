use Rattle.sentences.proofs.Each.{Coming}
use Rattle.sentences.proofs.objects.put_lines.Given as goal

abbrev pub invariant-loop-object : goal.invariant-loop-object
invariant-loop-object l = Coming l.state l.initial.page l.page l.object
