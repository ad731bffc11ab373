-- Reading goes on step by step, and what the text gives where it stops. Assumes nothing.
use Rattle.std.proofs.Common.{◌≡◌, ℕ, suc, ◌+◌, ◌-◌, ◌<◌, ◌≤◌, inl, inr, Bool, true, false, ◌==◌, List, [], ◌∷◌, ◌++◌, length, take, drop, Some, None, is_some, sym, refl, ap, ◌∙◌, subst, arith, length-append, length-drop}
use Rattle.std.specs.Prelude.{codes}
use Rattle.std.proofs.lemmas.List.{append_assoc, append-nil, take-append-drop, drop-drop}
use Rattle.std.proofs.lemmas.Bool.{false≢true}
use Rattle.std.proofs.lemmas.Bool.Decides.{nat_tests}
use Rattle.std.proofs.Math.Seq.{take-append_seam, drop-append_seam, take-add}
use Rattle.grammar.specs.Bytes.{is_char, IsSomeSpace, Bit, AreBits, bits, comment, NameEnds}
use Rattle.grammar.specs.Bytes.Between.{remark}
use Rattle.grammar.specs.Notations.Notation.{dtd}
use Rattle.grammar.specs.Declarations.{Declaration, Sign, AreDeclarations, all_signs, sign_bytes}
use Rattle.grammar.specs.Declarations.Sign.{ends}
use Rattle.grammar.specs.Faults.{EndsWell, SignStands, PartsBeyond, parts_of, Gives, AllFaultless}
use Rattle.grammar.specs.Faults.Cause.{kind, again, beyond}
use Rattle.grammar.specs.Lists.State.{want}
use Rattle.grammar.specs.Machine.{Spot, spelled, SignFits, go, goes, tight, refused, Named, name_before, name_sign, Fixed, word_before, word_sign, Phase, word_on, feed_at, feed, feeds, first, Stands, Accepts, is_outside, is_end, spot_read, read_by, signs_by, Met}
use Rattle.grammar.specs.Machine.Spot.{outside, titled, kids}
use Rattle.grammar.specs.Machine.Named.{title, kid, mate}
use Rattle.grammar.specs.Machine.Fixed.{the_element, the_empty, the_any, the_pcdata}
use Rattle.grammar.specs.Machine.Phase.{at, naming, word, angle, bang, bar, inside, dash, dashes}
use Rattle.grammar.specs.Progress.{Ends, StandsAt, NotNext, NoCharNext, StandsFirst, PassesSpace, PassesComment, PassesSign, SignAtFault, StopsAtByte, StopsAtEnd, StopsInWord, StopsBeforeComment, StopsInComment, EndsWhole, GivesMore, StandsBetween}
use Rattle.grammar.proofs.Signs.{Good, Sound, SignsFit, SignsFit-append, go_sound, all_go, fit_all}
use Rattle.grammar.proofs.Spelt.{Spelt, feeds_none}
use Rattle.grammar.proofs.Fed.{feeds_on, feed_stands, blanks_fed, piece_fed, bits_fed, sign_fed, outside_at, same_byte}
use Rattle.grammar.proofs.Text.{led, complete, sound}
use Rattle.grammar.proofs.Places.{first_spot, signs_met, stands_spelt}
use Rattle.grammar.proofs.Order.{head_same, tail_same, end_of, end_is, name_spells}
use Rattle.grammar.proofs.Gives.{faultless_grows, gives_all, gives_kind, gives_sign}
use Rattle.grammar.proofs.Whole.{few_parts, gives_some, gives_front}

-- over the bytes xs
abbrev pub Over : List ℕ → ℕ → List ℕ → List ℕ → Type 0
Over bytes k xs rest = (k + length xs ≤ length bytes) × (take (k + length xs) bytes ≡ take k bytes ++ xs) × (drop (k + length xs) bytes ≡ rest)

pub over : (bytes : List ℕ) (k : ℕ) (xs rest : List ℕ) → k ≤ length bytes → drop k bytes ≡ xs ++ rest → Over bytes k xs rest
over bytes k xs rest le d =
    let size : length bytes - k ≡ length xs + length rest = sym (length-drop k bytes) ∙ ap length d ∙ length-append xs rest in (
      omega arith,
      take-add k (length xs) bytes ∙ ap (λ x. take k bytes ++ take (length xs) x) d ∙ ap (λ x. take k bytes ++ x) (take-append_seam xs rest),
      sym (drop-drop (length xs) k bytes) ∙ ap (drop (length xs)) d ∙ drop-append_seam xs rest,
    )

fed_over : (bytes : List ℕ) (k : ℕ) (xs rest : List ℕ) (φ ψ : Phase) → k ≤ length bytes → feeds (take k bytes) first ≡ Some φ → drop k bytes ≡ xs ++ rest
    → feeds xs (Some φ) ≡ Some ψ → feeds (take (k + length xs) bytes) first ≡ Some ψ
fed_over bytes k xs rest φ ψ le e d on =
    ap (λ x. feeds x first) (over bytes k xs rest le d).1 ∙ feeds_on (take k bytes) xs first ∙ ap (feeds xs) e ∙ on

-- the phase and the spot
read_at : (φ : Phase) (σ : Spot) (h : Bool) → Stands φ σ h → (signs_by φ ≡ spelled σ) × (read_by φ ≡ spot_read σ)
read_at (at τ g) σ h st = (ap spelled st.0, ap spot_read st.0)
read_at (naming (title ds) n) σ h st = (ap spelled st.0, ap spot_read st.0)
read_at (naming (kid ds m o l) n) σ h st = (ap spelled st.0, ap spot_read st.0)
read_at (naming (mate ds m ns) n) σ h st = (ap spelled st.0, ap spot_read st.0)
read_at (word f left) σ h st = absurd st
read_at (angle ds) σ h st = absurd st
read_at (bang ds) σ h st = absurd st
read_at (bar ds) σ h st = absurd st
read_at (inside ds) σ h st = absurd st
read_at (dash ds) σ h st = absurd st
read_at (dashes ds) σ h st = absurd st

feed_here : (φ : Phase) (σ : Spot) (h : Bool) (b : ℕ) (rest : List ℕ) → Stands φ σ h → Ends φ (b ∷ rest) → feed φ b ≡ feed_at σ h b
feed_here (at τ g) σ h b rest st e = ap (λ x. feed_at x g b) st.0 ∙ ap (λ x. feed_at σ x b) st.1
feed_here (naming a n) σ h b rest st e = feed_stands (naming a n) σ h b st (inl e)
feed_here (word f left) σ h b rest st e = absurd st
feed_here (angle ds) σ h b rest st e = absurd st
feed_here (bang ds) σ h b rest st e = absurd st
feed_here (bar ds) σ h b rest st e = absurd st
feed_here (inside ds) σ h b rest st e = absurd st
feed_here (dash ds) σ h b rest st e = absurd st
feed_here (dashes ds) σ h b rest st e = absurd st

-- the first step, and those over white space and comments
pub stands_first : StandsFirst
stands_first ks bytes = record {
  phase = at (outside []) false;
  within = omega arith;
  fed = refl;
  stands = (refl, refl);
  ends = tt;
  faultless = (faultless_grows ks).0;
}

spaced_over : (gap : List ℕ) (φ : Phase) (σ : Spot) (h : Bool) → Stands φ σ h → IsSomeSpace gap → tight σ ≡ false → feeds gap (Some φ) ≡ Some (at σ true)
spaced_over [] φ σ h st is t = absurd is
spaced_over (b ∷ gap) φ σ h st is t = blanks_fed b gap φ σ h st is t

pub passes_space : PassesSpace
passes_space ks bytes k σ h gap rest r t is d = record {
  phase = at σ true;
  within = (over bytes k gap rest r.within d).0;
  fed = fed_over bytes k gap rest r.phase (at σ true) r.within r.fed d (spaced_over gap r.phase σ h r.stands is t);
  stands = (refl, refl);
  ends = tt;
  faultless = r.faultless;
}

pub passes_comment : PassesComment
passes_comment ks bytes k ds h us rest r are d = record {
  phase = at (outside ds) true;
  within = (over bytes k (comment (bits us)) rest r.within d).0;
  fed = fed_over bytes k (comment (bits us)) rest r.phase (at (outside ds) true) r.within r.fed d (piece_fed (remark us) ds r.phase h r.stands are);
  stands = (refl, refl);
  ends = tt;
  faultless = r.faultless;
}

-- over a sign
pub good_at : (ks : List (List ℕ)) (bytes : List ℕ) (k : ℕ) (σ : Spot) (h : Bool) → StandsAt ks bytes k σ h → Good σ
good_at ks bytes k σ h r =
    let (ts, gap, base, g, t, w) = stands_spelt (take k bytes) r.phase σ h (led (take k bytes) (Some r.phase) r.fed) r.stands in
    base.0

name_whole : (a : Named) (n rest : List ℕ) → EndsWell (name_sign a n) rest → NameEnds rest
name_whole (title ds) n rest h = h
name_whole (kid ds m o l) n rest h = h
name_whole (mate ds m ns) n rest h = h

ends_behind : (p : List ℕ) (ψ : Phase) (σ τ : Spot) (s : Sign) (rest : List ℕ) → Spelt p ψ → Stands ψ τ false → spelled τ ≡ spelled σ ++ (s ∷ []) → EndsWell s rest → Ends ψ rest
ends_behind p (naming a n) σ τ s rest (ts, gap, base, g, is, w) st e well =
    let same : name_sign a n ≡ s =
    sym (end_is (spelled (name_before a)) (name_sign a n)) ∙ ap end_of (sym (name_spells a n base.0).0 ∙ ap spelled st.0 ∙ e) ∙ end_is (spelled σ) s in
    name_whole a n rest (subst (λ x. EndsWell x rest) (sym same) well)
ends_behind p (at ρ g) σ τ s rest spelt st e well = tt
ends_behind p (word f left) σ τ s rest spelt st e well = tt
ends_behind p (angle ds) σ τ s rest spelt st e well = tt
ends_behind p (bang ds) σ τ s rest spelt st e well = tt
ends_behind p (bar ds) σ τ s rest spelt st e well = tt
ends_behind p (inside ds) σ τ s rest spelt st e well = tt
ends_behind p (dash ds) σ τ s rest spelt st e well = tt
ends_behind p (dashes ds) σ τ s rest spelt st e well = tt

pub passes_sign : PassesSign
passes_sign ks bytes k σ h s τ rest r may e fit d well one =
    let (ψ, on, st) = sign_fed s r.phase σ τ h r.stands may fit e in
    let (le, front, behind) = over bytes k (sign_bytes dtd s) rest r.within d in
    let sound : Sound σ s (Some τ) = subst (Sound σ s) e (go_sound σ s (good_at ks bytes k σ h r)) in
    let fed = fed_over bytes k (sign_bytes dtd s) rest r.phase ψ r.within r.fed d on in record {
      phase = ψ;
      within = le;
      fed = fed;
      stands = st;
      ends = subst (Ends ψ) (sym behind) (ends_behind (take (k + length (sign_bytes dtd s)) bytes) ψ σ τ s rest (led (take (k + length (sign_bytes dtd s)) bytes) (Some ψ) fed) st sound.0 well);
      faultless = subst (AllFaultless dtd ks) (sym sound.0) ((faultless_grows ks).1 (spelled σ) s r.faultless one);
    }

pub sign_at_fault : SignAtFault
sign_at_fault ks bytes k σ h s τ rest r may e fit d well =
    let met : Met bytes k (spelled σ) s = (r.phase, σ, h, rest, r.within, r.fed, r.stands, refl, may, ap is_some e, fit, d, well) in
    let told = gives_sign ks bytes k (spelled σ) s r.phase met r.fed r.faultless in
    let same = (read_at r.phase σ h r.stands).1 in (
      λ x. subst (λ ds. Gives dtd ks bytes ds (Some (again, k))) same (told.0 x),
      λ new x. subst (λ ds. Gives dtd ks bytes ds (Some (beyond, k))) same (told.1 new x),
    )

-- the signs behind it, and that it stands
pub spelled_on : (ks : List (List ℕ)) (bytes : List ℕ) (k : ℕ) (σ : Spot) (h : Bool) (s : Sign) (τ : Spot) → StandsAt ks bytes k σ h → go σ s ≡ Some τ
    → spelled τ ≡ spelled σ ++ (s ∷ [])
spelled_on ks bytes k σ h s τ r e =
    let sound : Sound σ s (Some τ) = subst (Sound σ s) e (go_sound σ s (good_at ks bytes k σ h r)) in
    sound.0

pub sign_stands : (ks : List (List ℕ)) (bytes : List ℕ) (k : ℕ) (σ : Spot) (h : Bool) (s : Sign) (τ : Spot) (rest : List ℕ) → StandsAt ks bytes k σ h
    → refused h σ s ≡ false → go σ s ≡ Some τ → SignFits s → drop k bytes ≡ sign_bytes dtd s ++ rest → EndsWell s rest → SignStands dtd bytes k (spelled σ) s
sign_stands ks bytes k σ h s τ rest r may e fit d well =
    (signs_met bytes k (spelled σ) s).1 (r.phase, σ, h, rest, r.within, r.fed, r.stands, refl, may, ap is_some e, fit, d, well)

-- where a declaration ends, its parts are too many exactly where they are over 256
signs_fit : (ks : List (List ℕ)) (bytes : List ℕ) (k : ℕ) (σ : Spot) (h : Bool) → StandsAt ks bytes k σ h → SignsFit (spelled σ)
signs_fit ks bytes k σ h r =
    let (ts, gap, (good, read, fits, are, last), g, t, w) = stands_spelt (take k bytes) r.phase σ h (led (take k bytes) (Some r.phase) r.fed) r.stands in
    subst SignsFit read are

pub ended_beyond : (ks : List (List ℕ)) (bytes : List ℕ) (k : ℕ) (σ : Spot) (h : Bool) (ds : List Declaration) (d : Declaration) → StandsAt ks bytes k σ h
    → go σ ends ≡ Some (outside (ds ++ (d ∷ [])))
    → (256 < length (parts_of [] d) → PartsBeyond (spelled σ ++ (ends ∷ []))) × (length (parts_of [] d) ≤ 256 → PartsBeyond (spelled σ ++ (ends ∷ [])) → ⊥)
ended_beyond ks bytes k σ h ds d r e = (
  (λ big. (ds, d, sym read, are, big)),
  (λ small. few_parts (spelled σ ++ (ends ∷ [])) ds d (ap (λ ss. goes ss first_spot) (sym read) ∙ all_go (ds ++ (d ∷ [])) [] are) small),
)
  where
    sound_end : Sound σ ends (Some (outside (ds ++ (d ∷ []))))
    sound_end = subst (Sound σ ends) e (go_sound σ ends (good_at ks bytes k σ h r))

    read : all_signs (ds ++ (d ∷ [])) ≡ spelled σ ++ (ends ∷ [])
    read = sound_end.0

    are : AreDeclarations (ds ++ (d ∷ []))
    are = fit_all (ds ++ (d ∷ [])) sound_end.1 (subst SignsFit (sym read) (SignsFit-append (spelled σ) (ends ∷ []) (signs_fit ks bytes k σ h r) (tt, tt)))

-- the end
whole_at : (bytes : List ℕ) (k : ℕ) → drop k bytes ≡ [] → take k bytes ≡ bytes
whole_at bytes k d = sym (append-nil (take k bytes)) ∙ ap (λ x. take k bytes ++ x) (sym d) ∙ take-append-drop k bytes

pub ends_whole : EndsWhole
ends_whole ks bytes k ds h r d =
    let (g, e) = outside_at r.phase ds h r.stands in
    gives_all ks bytes ds (g, ap (λ x. feeds x first) (sym (whole_at bytes k d)) ∙ r.fed ∙ e) r.faultless

-- where the phase goes no further
abbrev pub Stuck : Phase → List ℕ → Type 0
Stuck φ [] = is_end φ ≡ false
Stuck φ (b ∷ rest) = feed φ b ≡ None

end_stuck : (bytes : List ℕ) (k : ℕ) (φ : Phase) (ds : List Declaration) → feeds (take k bytes) first ≡ Some φ → drop k bytes ≡ [] → is_end φ ≡ false → Accepts bytes ds → ⊥
end_stuck bytes k φ ds e d stop (g, a) =
    false≢true (sym stop ∙ ap (λ o. elim o [ None ↦ false | Some χ ↦ is_end χ ]) (sym e ∙ ap (λ x. feeds x first) (whole_at bytes k d) ∙ a))

pub stuck : (ks : List (List ℕ)) (bytes : List ℕ) (k : ℕ) (φ : Phase) (rest : List ℕ) → k ≤ length bytes → feeds (take k bytes) first ≡ Some φ
    → AllFaultless dtd ks (signs_by φ) → drop k bytes ≡ rest → Stuck φ rest → Gives dtd ks bytes (read_by φ) (Some (kind, k))
stuck ks bytes k φ [] le e all d h =
    let size : length bytes - k ≡ 0 = sym (length-drop k bytes) ∙ ap length d in
    gives_kind ks bytes k φ (λ ds a. end_stuck bytes k φ ds e d h a) (le, ap is_some e, λ less. absurd (omega arith)) e all
stuck ks bytes k φ (b ∷ rest) le e all d h =
    let (more, front, behind) = over bytes k (b ∷ []) rest le d in
    let none : feeds (take (k + 1) bytes) first ≡ None = ap (λ x. feeds x first) front ∙ feeds_on (take k bytes) (b ∷ []) first ∙ ap (feeds (b ∷ [])) e ∙ h in
    let next : suc k ≡ k + 1 = omega arith in
    let all_bytes : feeds bytes first ≡ None =
    ap (λ x. feeds x first) (sym (take-append-drop (k + 1) bytes)) ∙ feeds_on (take (k + 1) bytes) (drop (k + 1) bytes) first ∙ ap (feeds (drop (k + 1) bytes)) none ∙ feeds_none (drop (k + 1) bytes) in
    gives_kind ks bytes k φ (λ ds a. false≢true (ap is_some (sym all_bytes ∙ a.1))) (le, ap is_some e, λ less. ap (λ i. feeds (take i bytes) first) next ∙ none) e all

stuck_at : (ks : List (List ℕ)) (bytes : List ℕ) (k : ℕ) (σ : Spot) (h : Bool) (rest : List ℕ) (r : StandsAt ks bytes k σ h) → drop k bytes ≡ rest → Stuck r.phase rest
    → Gives dtd ks bytes (spot_read σ) (Some (kind, k))
stuck_at ks bytes k σ h rest r d stop =
    let same = read_at r.phase σ h r.stands in
    subst (λ ds. Gives dtd ks bytes ds (Some (kind, k))) same.1
    (stuck ks bytes k r.phase rest r.within r.fed (subst (AllFaultless dtd ks) (sym same.0) r.faultless) d stop)

pub stops_at_byte : StopsAtByte
stops_at_byte ks bytes k σ h b rest r d stop =
    stuck_at ks bytes k σ h (b ∷ rest) r d (feed_here r.phase σ h b rest r.stands (subst (Ends r.phase) d r.ends) ∙ stop)

no_end : (φ : Phase) (σ : Spot) (h : Bool) → Stands φ σ h → is_outside σ ≡ false → is_end φ ≡ false
no_end (at τ g) σ h st out = ap is_outside st.0 ∙ out
no_end φ σ h st out = refl

pub stops_at_end : StopsAtEnd
stops_at_end ks bytes k σ h r d out = stuck_at ks bytes k σ h [] r d (no_end r.phase σ h r.stands out)

-- in what is no sign yet
stuck_behind : (ks : List (List ℕ)) (bytes : List ℕ) (k : ℕ) (σ : Spot) (h : Bool) (xs rest : List ℕ) (ψ : Phase) (r : StandsAt ks bytes k σ h) → drop k bytes ≡ xs ++ rest
    → feeds xs (Some r.phase) ≡ Some ψ → signs_by ψ ≡ spelled σ → read_by ψ ≡ spot_read σ → Stuck ψ rest → Gives dtd ks bytes (spot_read σ) (Some (kind, k + length xs))
stuck_behind ks bytes k σ h xs rest ψ r d on signs read stop =
    let (le, front, behind) = over bytes k xs rest r.within d in
    subst (λ ds. Gives dtd ks bytes ds (Some (kind, k + length xs))) read
    (stuck ks bytes (k + length xs) ψ rest le (fed_over bytes k xs rest r.phase ψ r.within r.fed d on) (subst (AllFaultless dtd ks) (sym signs) r.faultless) behind stop)

-- words
word_more : (f : Fixed) (xs : List ℕ) (c : ℕ) (left : List ℕ) → word_on f (xs ++ (c ∷ left)) ≡ word f (xs ++ (c ∷ left))
word_more f [] c left = refl
word_more f (x ∷ xs) c left = refl

word_part : (f : Fixed) (xs : List ℕ) (c : ℕ) (left : List ℕ) → feeds xs (Some (word f (xs ++ (c ∷ left)))) ≡ Some (word f (c ∷ left))
word_part f [] c left = refl
word_part f (x ∷ xs) c left =
    let one : feed (word f (x ∷ (xs ++ (c ∷ left)))) x ≡ Some (word_on f (xs ++ (c ∷ left))) = rw (same_byte x) refl in
    ap (feeds xs) (one ∙ ap (λ φ. Some φ) (word_more f xs c left)) ∙ word_part f xs c left

word_stuck : (f : Fixed) (c : ℕ) (left rest : List ℕ) → NotNext c rest → Stuck (word f (c ∷ left)) rest
word_stuck f c left [] stop = refl
word_stuck f c left (b ∷ rest) stop = rw stop refl

angle_stuck : (ds : List Declaration) (rest : List ℕ) → NotNext 33 rest → Stuck (angle ds) rest
angle_stuck ds [] stop = refl
angle_stuck ds (b ∷ rest) stop = rw stop refl

bang_stuck : (ds : List Declaration) (rest : List ℕ) → NotNext 69 rest → NotNext 45 rest → Stuck (bang ds) rest
bang_stuck ds [] stop never = refl
bang_stuck ds (b ∷ rest) stop never = rw (stop, never) refl

abbrev InWord : Phase → Spot → List ℕ → List ℕ → Type 0
InWord φ σ done rest = (ψ : Phase) × (feeds done (Some φ) ≡ Some ψ) × (signs_by ψ ≡ spelled σ) × (read_by ψ ≡ spot_read σ) × Stuck ψ rest

in_letters : (f : Fixed) (a : ℕ) (tail : List ℕ) (φ : Phase) (done : List ℕ) (c : ℕ) (left rest : List ℕ) → feed φ a ≡ Some (word f tail)
    → a ∷ tail ≡ done ++ (c ∷ left) → 0 < length done → NotNext c rest → InWord φ (word_before f) done rest
in_letters f a tail φ [] c left rest one w some stop = absurd (omega arith)
in_letters f a tail φ (x ∷ xs) c left rest one w some stop = (
  word f (c ∷ left),
  ap (feeds xs) (ap (feed φ) (sym (head_same a x tail (xs ++ (c ∷ left)) w)) ∙ one ∙ ap (λ y. Some (word f y)) (tail_same a x tail (xs ++ (c ∷ left)) w)) ∙ word_part f xs c left,
  refl,
  refl,
  word_stuck f c left rest stop,
)

in_element : (ds : List Declaration) (φ : Phase) (done : List ℕ) (c : ℕ) (left rest : List ℕ) → feed φ 60 ≡ Some (angle ds) → codes "<!ELEMENT" ≡ done ++ (c ∷ left)
    → 0 < length done → NotNext c rest → (done ≡ codes "<!" → NotNext 45 rest) → InWord φ (outside ds) done rest
in_element ds φ [] c left rest one w some stop never = absurd (omega arith)
in_element ds φ (x ∷ []) c left rest one w some stop never =
    let this : 60 ≡ x = head_same 60 x (codes "!ELEMENT") (c ∷ left) w in
    let next : 33 ≡ c = head_same 33 c (codes "ELEMENT") left (tail_same 60 x (codes "!ELEMENT") (c ∷ left) w) in
    (angle ds, ap (feed φ) (sym this) ∙ one, refl, refl, angle_stuck ds rest (subst (λ i. NotNext i rest) (sym next) stop))
in_element ds φ (x ∷ y ∷ []) c left rest one w some stop never =
    let this : 60 ≡ x = head_same 60 x (codes "!ELEMENT") (y ∷ c ∷ left) w in
    let behind : codes "!ELEMENT" ≡ y ∷ c ∷ left = tail_same 60 x (codes "!ELEMENT") (y ∷ c ∷ left) w in
    let that : 33 ≡ y = head_same 33 y (codes "ELEMENT") (c ∷ left) behind in
    let next : 69 ≡ c = head_same 69 c (codes "LEMENT") left (tail_same 33 y (codes "ELEMENT") (c ∷ left) behind) in (
      bang ds,
      ap (λ i. feeds (i ∷ []) (feed φ x)) (sym that) ∙ ap (λ i. feeds (33 ∷ []) (feed φ i)) (sym this) ∙ ap (feeds (33 ∷ [])) one,
      refl,
      refl,
      bang_stuck ds rest (subst (λ i. NotNext i rest) (sym next) stop) (never (ap (λ i. i ∷ y ∷ []) (sym this) ∙ ap (λ i. 60 ∷ i ∷ []) (sym that))),
    )
in_element ds φ (x ∷ y ∷ z ∷ zs) c left rest one w some stop never =
    let this : 60 ≡ x = head_same 60 x (codes "!ELEMENT") (y ∷ z ∷ (zs ++ (c ∷ left))) w in
    let behind : codes "!ELEMENT" ≡ y ∷ z ∷ (zs ++ (c ∷ left)) = tail_same 60 x (codes "!ELEMENT") (y ∷ z ∷ (zs ++ (c ∷ left))) w in
    let that : 33 ≡ y = head_same 33 y (codes "ELEMENT") (z ∷ (zs ++ (c ∷ left))) behind in
    let letters : codes "ELEMENT" ≡ z ∷ (zs ++ (c ∷ left)) = tail_same 33 y (codes "ELEMENT") (z ∷ (zs ++ (c ∷ left))) behind in
    let (ψ, on, signs, read, stuck_in) = in_letters (the_element ds) 69 (codes "LEMENT") (bang ds) (z ∷ zs) c left rest refl letters (omega arith) stop in (
      ψ,
      ap (λ i. feeds (i ∷ z ∷ zs) (feed φ x)) (sym that) ∙ ap (λ i. feeds (33 ∷ z ∷ zs) (feed φ i)) (sym this) ∙ ap (feeds (33 ∷ z ∷ zs)) one ∙ on,
      signs,
      read,
      stuck_in,
    )

in_word : (f : Fixed) (h : Bool) (φ : Phase) (done : List ℕ) (c : ℕ) (left rest : List ℕ) → Stands φ (word_before f) h → refused h (word_before f) (word_sign f) ≡ false
    → sign_bytes dtd (word_sign f) ≡ done ++ (c ∷ left) → 0 < length done → NotNext c rest → (done ≡ codes "<!" → NotNext 45 rest) → InWord φ (word_before f) done rest
in_word (the_element ds) h φ done c left rest st may w some stop never = in_element ds φ done c left rest (feed_stands φ (outside ds) h 60 st (inl refl)) w some stop never
in_word (the_empty ds n) true φ done c left rest st may w some stop never =
    in_letters (the_empty ds n) 69 (codes "MPTY") φ done c left rest (feed_stands φ (titled ds n) true 69 st (inr refl)) w some stop
in_word (the_empty ds n) false φ done c left rest st may w some stop never = absurd (false≢true (sym may))
in_word (the_any ds n) true φ done c left rest st may w some stop never =
    in_letters (the_any ds n) 65 (codes "NY") φ done c left rest (feed_stands φ (titled ds n) true 65 st (inr refl)) w some stop
in_word (the_any ds n) false φ done c left rest st may w some stop never = absurd (false≢true (sym may))
in_word (the_pcdata ds n) h φ done c left rest st may w some stop never =
    in_letters (the_pcdata ds n) 35 (codes "PCDATA") φ done c left rest (feed_stands φ (kids ds n (want [] None)) h 35 st (inl refl)) w some stop

pub stops_in_word : StopsInWord
stops_in_word ks bytes k σ h f done c left rest r is may w some d stop never =
    let (ψ, on, signs, read, stops) = in_word f h r.phase done c left rest (subst (λ x. Stands r.phase x h) (sym is) r.stands)
    (subst (λ x. refused h x (word_sign f) ≡ false) (sym is) may) w some stop never in
    stuck_behind ks bytes k σ h done rest ψ r d on (signs ∙ ap spelled is) (read ∙ ap spot_read is) stops

-- comments
bar_stuck : (ds : List Declaration) (rest : List ℕ) → NotNext 45 rest → Stuck (bar ds) rest
bar_stuck ds [] stop = refl
bar_stuck ds (b ∷ rest) stop = rw stop refl

pub stops_before_comment : StopsBeforeComment
stops_before_comment ks bytes k ds h rest r d stop =
    stuck_behind ks bytes k (outside ds) h (codes "<!-") rest (bar ds) r d
    (ap (feeds (codes "!-")) (feed_stands r.phase (outside ds) h 60 r.stands (inl refl))) refl refl (bar_stuck ds rest stop)

no_dash : (b : ℕ) → is_char b ≡ false → (b == 45) ≡ false
no_dash b e = grind (arith, nat_tests)

inside_stuck : (ds : List Declaration) (rest : List ℕ) → NoCharNext rest → Stuck (inside ds) rest
inside_stuck ds [] stop = refl
inside_stuck ds (b ∷ rest) stop = rw (no_dash b stop, stop) refl

dash_stuck : (ds : List Declaration) (rest : List ℕ) → NoCharNext rest → Stuck (dash ds) rest
dash_stuck ds [] stop = refl
dash_stuck ds (b ∷ rest) stop = rw (no_dash b stop, stop) refl

dashes_stuck : (ds : List Declaration) (rest : List ℕ) → NotNext 62 rest → Stuck (dashes ds) rest
dashes_stuck ds [] stop = refl
dashes_stuck ds (b ∷ rest) stop = rw stop refl

comment_fed : (us : List Bit) (tail : List ℕ) (φ ψ : Phase) (ds : List Declaration) (h : Bool) → Stands φ (outside ds) h → AreBits us → feeds tail (Some (inside ds)) ≡ Some ψ
    → feeds (codes "<!--" ++ (bits us ++ tail)) (Some φ) ≡ Some ψ
comment_fed us tail φ ψ ds h st are on =
    ap (feeds (codes "!--" ++ (bits us ++ tail))) (feed_stands φ (outside ds) h 60 st (inl refl))
    ∙ feeds_on (bits us) tail (Some (inside ds)) ∙ ap (feeds tail) (bits_fed us ds are) ∙ on

in_comment : (ks : List (List ℕ)) (bytes : List ℕ) (k : ℕ) (ds : List Declaration) (h : Bool) (us : List Bit) (tail rest : List ℕ) (ψ : Phase) (i : ℕ)
    → StandsAt ks bytes k (outside ds) h → AreBits us → drop k bytes ≡ codes "<!--" ++ (bits us ++ (tail ++ rest)) → feeds tail (Some (inside ds)) ≡ Some ψ
    → signs_by ψ ≡ all_signs ds → read_by ψ ≡ ds → Stuck ψ rest → k + 4 + (length (bits us) + length tail) ≡ i → Gives dtd ks bytes ds (Some (kind, i))
in_comment ks bytes k ds h us tail rest ψ i r are d on signs read stops place =
    let size : length (bits us ++ tail) ≡ length (bits us) + length tail = length-append (bits us) tail in
    let where_it_is : k + length (codes "<!--" ++ (bits us ++ tail)) ≡ i = omega arith in
    subst (λ n. Gives dtd ks bytes ds (Some (kind, n))) where_it_is
    (stuck_behind ks bytes k (outside ds) h (codes "<!--" ++ (bits us ++ tail)) rest ψ r
    (d ∙ ap (λ x. codes "<!--" ++ x) (sym (append_assoc (bits us) tail rest)))
    (comment_fed us tail r.phase ψ ds h r.stands are on) signs read stops)

pub stops_in_comment : StopsInComment
stops_in_comment ks bytes k ds h us rest r are = (
  (λ d stop. in_comment ks bytes k ds h us [] rest (inside ds) _ r are d refl refl refl (inside_stuck ds rest stop) (omega arith)),
  (λ d stop. in_comment ks bytes k ds h us (45 ∷ []) rest (dash ds) _ r are d refl refl refl (dash_stuck ds rest stop) (omega arith)),
  (λ d stop. in_comment ks bytes k ds h us (45 ∷ 45 ∷ []) rest (dashes ds) _ r are d refl refl refl (dashes_stuck ds rest stop) (omega arith)),
)

-- between declarations
pub gives_more : GivesMore
gives_more ks bytes k ds h r =
    let (g, e) = outside_at r.phase ds h r.stands in
    let (es, end, given) = gives_some ks bytes in
    let (more, is) = gives_front ks bytes k ds es end r.within (sound (take k bytes) ds (g, r.fed ∙ e)) r.faultless given in
    (more, end, subst (λ x. Gives dtd ks bytes x end) is given)

pub stands_between : StandsBetween
stands_between ks bytes k ds = (
  (λ h r.
      let (g, e) = outside_at r.phase ds h r.stands in
      (sound (take k bytes) ds (g, r.fed ∙ e), r.faultless)),
  (λ le t all.
      let (g, e) = complete (take k bytes) ds t in (
        g,
        record {
          phase = at (outside ds) g;
          within = le;
          fed = e;
          stands = (refl, refl);
          ends = tt;
          faultless = all;
        },
      )),
)
