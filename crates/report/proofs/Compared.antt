-- What comes of two texts, by what comes of each. Assumes nothing.
use Rattle.std.proofs.Common.{◌≡◌, ℕ, List, length, Some, None, Option, inl, inr, sym, refl, ap, ◌∙◌, subst}
use Rattle.std.specs.Prelude.{Ok, Err}
use Rattle.listing.specs.declared.listing.Listing.{Listing}
use Rattle.report.specs.Compared.{IsIo, SourceRead, blank_vocabulary, SideOf, TextsCompared}
use Rattle.report.specs.Reports.{ReportWritten}
use Rattle.report.specs.declared.compare.NotCompared.{NotCompared}
use Rattle.report.specs.declared.compare.NotCompared.TheVariants.{Refused, Io}
use Rattle.report.specs.declared.compare.Source.{Source}
use Rattle.report.specs.declared.side.Side.{Side}
use Rattle.report.specs.declared.tally.Tally.{Tally}
use Rattle.names.specs.declared.vocabulary.Vocabulary.{Vocabulary}

pub sent_refused : (sent expected : Source) (o : Option (List ℕ)) (v : Vocabulary) (e : NotCompared) → v ≡ blank_vocabulary → SourceRead v sent (Err e)
    → TextsCompared sent expected o o (Err e)
sent_refused sent expected o v (Refused r) is h = (refl, inl (subst (λ x. SourceRead x sent (Err (Refused r))) is h))
sent_refused sent expected o v (Io error) is h = tt

pub expected_refused : (sent expected : Source) (o : Option (List ℕ)) (v : Vocabulary) (l : Listing) (e : NotCompared) → v ≡ blank_vocabulary → SourceRead v sent (Ok l)
    → SourceRead l.vocabulary expected (Err e) → TextsCompared sent expected o o (Err e)
expected_refused sent expected o v l (Refused r) is h k = (refl, inr (l, subst (λ x. SourceRead x sent (Ok l)) is h, k))
expected_refused sent expected o v l (Io error) is h k = tt

pub broken_off : (sent expected : Source) (old new : Option (List ℕ)) (e : NotCompared) → IsIo e → TextsCompared sent expected old new (Err e)
broken_off sent expected old new (Refused r) h = absurd h
broken_off sent expected old new (Io error) h = tt

pub compared : (sent expected : Source) (old new : Option (List ℕ)) (v : Vocabulary) (l m : Listing) (here there : Side) (t : Tally) → v ≡ blank_vocabulary → SourceRead v sent (Ok l)
    → SourceRead l.vocabulary expected (Ok m) → SideOf sent l here → SideOf expected m there → ReportWritten {E = NotCompared} m.vocabulary.names here there old new (Ok t)
    → TextsCompared sent expected old new (Ok t)
compared sent expected old new v l m here there t is h k a b written = (l, m, here, there, subst (λ x. SourceRead x sent (Ok l)) is h, k, a, b, written)
