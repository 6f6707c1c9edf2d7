-- The theorems of `specs/Theorems.antt`; `Meaning` has the lemmas behind them.
-- Assumes nothing.
use Rattle.words.specs.Theorems.{LabelsMatch, WordsCarried, WordsMatch, Theorem1, Theorem2, Definition9, SignatureTells, SignatureRead, StartLeast, SignatureShows}
use Rattle.words.proofs.Carried.{word_carried}
use Rattle.words.proofs.Labels.{SameWord}
use Rattle.words.proofs.Sign.{signing_shows}
use Rattle.words.proofs.Order.{signature_one, signature_least, start_dart, start_word, start_least, symmetries_some, symmetries_most}
use Rattle.words.proofs.Meaning.{labels_matching, words_matching, words_start, words_matching_only, word_complete, words_complete, signature_complete, signature_checked, signature_accepted, signature_signature, signature_start}

pub labels_match : LabelsMatch
unfolding LabelsMatch
labels_match M a d dart = labels_matching a d dart

pub words_are_carried : WordsCarried
unfolding WordsCarried
words_are_carried M M' f a m d dart = word_carried m a d dart

pub words_match : WordsMatch
unfolding WordsMatch
words_match M M' a a' same_dim d d' h h' same =
    let s : SameWord M d M' d' = record { accepted = a; accepted' = a'; start = h; start' = h'; same_dim = same_dim; same_word = same } in
    (words_matching s, words_start s, λ g m to. words_matching_only s m to)

pub theorem_1 : Theorem1
unfolding Theorem1
theorem_1 M M' a a' same_dim = word_complete a a' same_dim

pub theorem_2 : Theorem2
unfolding Theorem2
theorem_2 M M' a a' same_dim = words_complete a a' same_dim

pub definition_9 : Definition9
unfolding Definition9
definition_9 M a = (signature_one M a.bounds.darts_least, signature_least M)

pub signature_tells : SignatureTells
unfolding SignatureTells
signature_tells M M' a a' = signature_complete a a'

pub signature_read : SignatureRead
unfolding SignatureRead
signature_read M a = (signature_checked a, signature_accepted a, signature_signature a, signature_start a)

pub start_is_least : StartLeast
unfolding StartLeast
start_is_least M a =
    let some = a.bounds.darts_least in
    (start_dart M some, start_word M some, (λ d dart same. start_least M some d dart.0 same), symmetries_some M some, symmetries_most M)

pub signature_shows : SignatureShows
unfolding SignatureShows
signature_shows g room = signing_shows g room
