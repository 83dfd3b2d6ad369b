-- how many groups may follow
use Rattle.writing.proofs.numbers.+put_groups.Given as goal

abbrev pub decreases-put_groups : goal.decreases-put_groups
decreases-put_groups l = l.more
