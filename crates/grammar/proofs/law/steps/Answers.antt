use Rattle.grammar.proofs.Steps.{stands_first, passes_space, passes_comment, passes_sign, sign_at_fault, stops_at_byte, stops_at_end, stops_in_word, stops_before_comment, stops_in_comment, ends_whole, gives_more, stands_between}
use Rattle.grammar.proofs.law.steps.Goals as goal

pub returns-clause-first : goal.returns-clause-first
returns-clause-first c = stands_first

pub returns-clause-space : goal.returns-clause-space
returns-clause-space c = passes_space

pub returns-clause-comment : goal.returns-clause-comment
returns-clause-comment c = passes_comment

pub returns-clause-sign : goal.returns-clause-sign
returns-clause-sign c = passes_sign

pub returns-clause-fault : goal.returns-clause-fault
returns-clause-fault c = sign_at_fault

pub returns-clause-byte : goal.returns-clause-byte
returns-clause-byte c = stops_at_byte

pub returns-clause-end : goal.returns-clause-end
returns-clause-end c = stops_at_end

pub returns-clause-word : goal.returns-clause-word
returns-clause-word c = stops_in_word

pub returns-clause-before_comment : goal.returns-clause-before_comment
returns-clause-before_comment c = stops_before_comment

pub returns-clause-in_comment : goal.returns-clause-in_comment
returns-clause-in_comment c = stops_in_comment

pub returns-clause-whole : goal.returns-clause-whole
returns-clause-whole c = ends_whole

pub returns-clause-more : goal.returns-clause-more
returns-clause-more c = gives_more

pub returns-clause-between : goal.returns-clause-between
returns-clause-between c = stands_between
