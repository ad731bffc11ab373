-- What a call asks, and what an answer says. Assumes nothing.
use Rattle.std.specs.Prelude.{List, [], ◌∷◌}
use Rattle.text.specs.Law.Told.{declares, none_left, fault}
use Rattle.readings.specs.Histories.{Asked, Said, History}
use Rattle.readings.specs.Histories.Asked.{begins, next}
use Rattle.readings.specs.Histories.Said.{begun, no_text, tells}
use Rattle.readings.specs.declared.call.ReadCall.{ReadCall}
use Rattle.readings.specs.declared.call.ReadCall.TheVariants.{Begin, Next}
use Rattle.readings.specs.declared.answer.ReadAnswer.{ReadAnswer}
use Rattle.readings.specs.declared.answer.ReadAnswer.TheVariants.{Begun, NoText, Declares, NoneLeft, Fault}

abbrev pub asked : ReadCall → Asked
asked (Begin text) = begins text.now
asked Next = next

abbrev pub said : ReadAnswer → Said
said Begun = begun
said NoText = no_text
said (Declares parts symbol name) = tells (declares parts.items symbol name.now)
said NoneLeft = tells none_left
said (Fault f) = tells (fault f)

-- what was asked and answered behind what was before
abbrev pub history_from : History → List ReadCall → List ReadAnswer → History
history_from h [] answers = h
history_from h (c ∷ cs) [] = h
history_from h (c ∷ cs) (a ∷ more) = history_from (record { asked = asked c; said = said a } ∷ h) cs more

-- calls with their answers, in turn
abbrev pub history : List ReadCall → List ReadAnswer → History
history calls answers = history_from [] calls answers
