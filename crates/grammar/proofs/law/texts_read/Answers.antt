use Rattle.grammar.proofs.Text.{complete, sound, one_reading, completion, viable}
use Rattle.grammar.proofs.Places.{stops_there, signs_met}
use Rattle.grammar.proofs.Faults.{ends_met, signs_before, faults_met, gives_one}
use Rattle.grammar.proofs.Order.{one_sign, in_order, signs_read}
use Rattle.grammar.proofs.Computed.{computed}
use Rattle.grammar.proofs.Whole.{gives_some, gives_front}
use Rattle.grammar.proofs.Gives.{faultless_grows, gives_all, gives_kind, gives_sign}
use Rattle.grammar.proofs.law.texts_read.Goals as goal

pub returns-clause-complete : goal.returns-clause-complete
returns-clause-complete c = complete

pub returns-clause-sound : goal.returns-clause-sound
returns-clause-sound c = sound

pub returns-clause-one : goal.returns-clause-one
returns-clause-one c = one_reading

pub returns-clause-completion : goal.returns-clause-completion
returns-clause-completion c = completion

pub returns-clause-viable : goal.returns-clause-viable
returns-clause-viable c = viable

pub returns-clause-stops : goal.returns-clause-stops
returns-clause-stops c = stops_there

pub returns-clause-signs : goal.returns-clause-signs
returns-clause-signs c = signs_met

pub returns-clause-before : goal.returns-clause-before
returns-clause-before c = signs_before

pub returns-clause-ended : goal.returns-clause-ended
returns-clause-ended c = ends_met

pub returns-clause-faults : goal.returns-clause-faults
returns-clause-faults c = faults_met

pub returns-clause-gives : goal.returns-clause-gives
returns-clause-gives c = gives_one

pub returns-clause-sign : goal.returns-clause-sign
returns-clause-sign c = one_sign

pub returns-clause-order : goal.returns-clause-order
returns-clause-order c = in_order

pub returns-clause-read : goal.returns-clause-read
returns-clause-read c = signs_read

pub returns-clause-grows : goal.returns-clause-grows
returns-clause-grows c = faultless_grows

pub returns-clause-gives_all : goal.returns-clause-gives_all
returns-clause-gives_all c = gives_all

pub returns-clause-gives_kind : goal.returns-clause-gives_kind
returns-clause-gives_kind c = gives_kind

pub returns-clause-gives_sign : goal.returns-clause-gives_sign
returns-clause-gives_sign c = gives_sign

pub returns-clause-computed : goal.returns-clause-computed
returns-clause-computed c = computed

pub returns-clause-gives_some : goal.returns-clause-gives_some
returns-clause-gives_some c = gives_some

pub returns-clause-gives_front : goal.returns-clause-gives_front
returns-clause-gives_front c = gives_front
