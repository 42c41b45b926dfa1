-- What comes of a line.
use Rattle.std.specs.Prelude.{◌≡◌, length, Ok, Err, Result}
use Rattle.automata.specs.Meaning.{Meaning}
use Rattle.automata.specs.Words.{follow, verdict_of}
use Rattle.automata.specs.declared.yes_no.YesNo.{YesNo}
use Rattle.histories.specs.declared.line.WrongToken.{WrongToken}
use Rattle.histories.specs.declared.outcome.Outcome.{Outcome}
use Rattle.histories.specs.declared.outcome.Outcome.TheVariants.{Followed, Unreadable}
use Rattle.histories.specs.declared.walk.Walk.{Walk}
use Rattle.histories.specs.Histories.{Reading, word, wrong}

-- A history is followed, with its number of letters and its verdict; of a line that tells none, the wrong token is named.
abbrev pub Came : Meaning YesNo → Reading → Outcome → Type 0
Came m (word w) (Followed n v) = (n ≡ length w) × (v ≡ verdict_of m w)
Came m (word w) (Unreadable t) = ⊥
Came m (wrong fault token) (Followed n v) = ⊥
Came m (wrong fault token) (Unreadable t) = (t.fault ≡ fault) × (t.text.now ≡ token)

-- A walk takes all letters of a history from the start; of a line that tells none, the wrong token is named.
abbrev pub Walked : {V : Type 0} → Meaning V → Reading → Result Walk WrongToken → Type 0
Walked m (word w) (Ok here) = (here.letters ≡ length w) × (here.state ≡ follow m m.start w)
Walked m (word w) (Err t) = ⊥
Walked m (wrong fault token) (Ok here) = ⊥
Walked m (wrong fault token) (Err t) = (t.fault ≡ fault) × (t.text.now ≡ token)
