use Rattle.pv_words.proofs.Keeping.{known_beside, known_next, owns_entry}
use Rattle.pv_words.proofs.laws.keeps_entries.Goals as goal

pub returns-clause-owned : goal.returns-clause-owned
returns-clause-owned c = λ p dom gref frame k want note known on. owns_entry dom gref frame p k want note known on

pub returns-clause-learned : goal.returns-clause-learned
returns-clause-learned c = λ frames grants old new dom gref frame k note a range device known on left finds.
    known_next frames grants dom gref frame range old new k note a left finds device on known

pub returns-clause-kept : goal.returns-clause-kept
returns-clause-kept c = λ frames grants old new dom gref frame k d a range device beside left known.
    known_beside frames grants dom gref range old new d device frame k a left beside known
