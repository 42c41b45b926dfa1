-- A file has one answer: it is good, or it has one fault.
use Rattle.std.proofs.Common.{◌≡◌, ℕ, List, length, Ok, Err, Option, Result, sym, refl, ap, ◌∙◌, subst, ⊎_elim, arith}
use Rattle.std.proofs.lemmas.Bool.{cases_order}
use Rattle.ruleformat.specs.declared.format.Trailer.{Trailer}
use Rattle.ruleformat.specs.declared.format.Header.{Header}
use Rattle.ruleformat.specs.declared.format.Kind.{Kind}
use Rattle.ruleformat.specs.declared.format.Kind.TheVariants.{Dense, Edges}
use Rattle.ruleformat.specs.declared.fault.FileFault.{FileFault}
use Rattle.ruleformat.specs.declared.fault.FileFault.TheVariants as fault
use Rattle.ruleformat.specs.Bytes.{trailer_of}
use Rattle.ruleformat.specs.Layout.{Known, Laid, kind_byte, header_of, entry_place, verdict_place}
use Rattle.ruleformat.specs.Faults.{Right, AllRight, FirstWrong, Good, Refused, Answers}

byte_same : (a b : Kind) → kind_byte a ≡ kind_byte b → a ≡ b
byte_same Dense Dense e = refl
byte_same Dense Edges e = absurd (omega arith)
byte_same Edges Dense e = absurd (omega arith)
byte_same Edges Edges e = refl

-- a trailer says one kind
pub known_same : (w : Option Kind) (a b : Kind) (t : Trailer) → Known w a t → Known w b t → a ≡ b
known_same w a b t p q = byte_same a b (cc (p.says_kind, q.says_kind))

-- the first wrong one is one
first_same : (P : ℕ → Type 0) (m i j : ℕ) → FirstWrong P m i → FirstWrong P m j → i ≡ j
first_same P m i j p q =
    ⊎_elim (λ e. e) (λ o. ⊎_elim (λ lt. absurd (p.wrong (q.before i lt))) (λ lt. absurd (q.wrong (p.before j lt))) o) (cases_order i j)

module _ {V : Type 0} (reads : ℕ → Option V) (w : Option Kind) (f : List ℕ) where
  -- what is said of the file's kind is said of each kind that the trailer says
  kind_moved : (P : Kind → Type 0) (a b : Kind) → Known w a (trailer_of f) → Known w b (trailer_of f) → P a → P b
  kind_moved P a b p q x = subst P (known_same w a b (trailer_of f) p q) x

  laid_moved : (a b : Kind) → Known w a (trailer_of f) → Known w b (trailer_of f) → Laid (length f) a (trailer_of f) → Laid (length f) b (trailer_of f)
  laid_moved a b p q l = kind_moved (λ x. Laid (length f) x (trailer_of f)) a b p q l

  wrong_moved : (a b : Kind) (i : ℕ) → Known w a (trailer_of f) → Known w b (trailer_of f) → FirstWrong (Right a f (header_of f a)) (header_of f a).entries i → FirstWrong (Right b f (header_of f b)) (header_of f b).entries i
  wrong_moved a b i p q r = kind_moved (λ x. FirstWrong (Right x f (header_of f x)) (header_of f x).entries i) a b p q r

  not_all : (a b : Kind) (i : ℕ) → Known w a (trailer_of f) → Known w b (trailer_of f) → FirstWrong (Right a f (header_of f a)) (header_of f a).entries i → AllRight b f (header_of f b) → ⊥
  not_all a b i p q r all = let moved = wrong_moved a b i p q r in moved.wrong (all i moved.within)

  entry_same : (a b : Kind) (i j : ℕ) → Known w a (trailer_of f) → Known w b (trailer_of f) → FirstWrong (Right a f (header_of f a)) (header_of f a).entries i → FirstWrong (Right b f (header_of f b)) (header_of f b).entries j → entry_place a (header_of f a) i ≡ entry_place b (header_of f b) j
  entry_same a b i j p q r s =
      let kind = known_same w a b (trailer_of f) p q in
      let place = first_same _ _ i j (wrong_moved a b i p q r) s in
      λ t. entry_place (kind t) (header_of f (kind t)) (place t)

  pub refused_not_good : (e : FileFault) (kd : Kind) → Refused reads w f e → Good reads w f kd → ⊥
  refused_not_good (fault.Short p) kd r g = omega (arith, g.headed.long)
  refused_not_good (fault.Kind p) kd r g = r.1 kd g.headed.known
  refused_not_good (fault.Figures p) kd r g = r.3 g.headed.ranged
  refused_not_good (fault.Distance p) kd r g = r.4 (laid_moved kd r.0 g.headed.known r.2 g.headed.laid)
  refused_not_good (fault.Entry p) kd r g = not_all r.0 kd r.1 r.2.known g.headed.known r.3 g.entries
  refused_not_good (fault.Verdict p) kd r g = r.4.wrong (g.verdicts r.1 r.4.within)

  pub refused_same : (d e : FileFault) → Refused reads w f d → Refused reads w f e → d ≡ e
  refused_same (fault.Short p) (fault.Short q) r s = ap fault.Short (r.1 ∙ sym s.1)
  refused_same (fault.Short p) (fault.Kind q) r s = absurd (omega (arith, r.0, s.0))
  refused_same (fault.Short p) (fault.Figures q) r s = absurd (omega (arith, r.0, s.1))
  refused_same (fault.Short p) (fault.Distance q) r s = absurd (omega (arith, r.0, s.1))
  refused_same (fault.Short p) (fault.Entry q) r s = absurd (omega (arith, r.0, s.2.long))
  refused_same (fault.Short p) (fault.Verdict q) r s = absurd (omega (arith, r.0, s.2.long))
  refused_same (fault.Kind p) (fault.Short q) r s = absurd (omega (arith, s.0, r.0))
  refused_same (fault.Kind p) (fault.Kind q) r s = ap fault.Kind (r.2 ∙ sym s.2)
  refused_same (fault.Kind p) (fault.Figures q) r s = absurd (r.1 s.0 s.2)
  refused_same (fault.Kind p) (fault.Distance q) r s = absurd (r.1 s.0 s.2)
  refused_same (fault.Kind p) (fault.Entry q) r s = absurd (r.1 s.0 s.2.known)
  refused_same (fault.Kind p) (fault.Verdict q) r s = absurd (r.1 s.0 s.2.known)
  refused_same (fault.Figures p) (fault.Short q) r s = absurd (omega (arith, s.0, r.1))
  refused_same (fault.Figures p) (fault.Kind q) r s = absurd (s.1 r.0 r.2)
  refused_same (fault.Figures p) (fault.Figures q) r s = ap fault.Figures (r.4 ∙ sym s.4)
  refused_same (fault.Figures p) (fault.Distance q) r s = absurd (r.3 s.3)
  refused_same (fault.Figures p) (fault.Entry q) r s = absurd (r.3 s.2.ranged)
  refused_same (fault.Figures p) (fault.Verdict q) r s = absurd (r.3 s.2.ranged)
  refused_same (fault.Distance p) (fault.Short q) r s = absurd (omega (arith, s.0, r.1))
  refused_same (fault.Distance p) (fault.Kind q) r s = absurd (s.1 r.0 r.2)
  refused_same (fault.Distance p) (fault.Figures q) r s = absurd (s.3 r.3)
  refused_same (fault.Distance p) (fault.Distance q) r s = ap fault.Distance (r.5 ∙ sym s.5)
  refused_same (fault.Distance p) (fault.Entry q) r s = absurd (r.4 (laid_moved s.0 r.0 s.2.known r.2 s.2.laid))
  refused_same (fault.Distance p) (fault.Verdict q) r s = absurd (r.4 (laid_moved s.0 r.0 s.2.known r.2 s.2.laid))
  refused_same (fault.Entry p) (fault.Short q) r s = absurd (omega (arith, s.0, r.2.long))
  refused_same (fault.Entry p) (fault.Kind q) r s = absurd (s.1 r.0 r.2.known)
  refused_same (fault.Entry p) (fault.Figures q) r s = absurd (s.3 r.2.ranged)
  refused_same (fault.Entry p) (fault.Distance q) r s = absurd (s.4 (laid_moved r.0 s.0 r.2.known s.2 r.2.laid))
  refused_same (fault.Entry p) (fault.Entry q) r s = ap fault.Entry (r.4 ∙ entry_same r.0 s.0 r.1 s.1 r.2.known s.2.known r.3 s.3 ∙ sym s.4)
  refused_same (fault.Entry p) (fault.Verdict q) r s = absurd (not_all r.0 s.0 r.1 r.2.known s.2.known r.3 s.3)
  refused_same (fault.Verdict p) (fault.Short q) r s = absurd (omega (arith, s.0, r.2.long))
  refused_same (fault.Verdict p) (fault.Kind q) r s = absurd (s.1 r.0 r.2.known)
  refused_same (fault.Verdict p) (fault.Figures q) r s = absurd (s.3 r.2.ranged)
  refused_same (fault.Verdict p) (fault.Distance q) r s = absurd (s.4 (laid_moved r.0 s.0 r.2.known s.2 r.2.laid))
  refused_same (fault.Verdict p) (fault.Entry q) r s = absurd (not_all s.0 r.0 s.1 s.2.known r.2.known s.3 r.3)
  refused_same (fault.Verdict p) (fault.Verdict q) r s = ap fault.Verdict (r.5 ∙ ap (λ (i : ℕ). verdict_place (header_of f r.0) i) (first_same _ _ r.1 s.1 r.4 s.4) ∙ sym s.5)

  good_same : (g h : Header) → Answers reads w f (Ok g) → Answers reads w f (Ok h) → g ≡ h
  good_same g h p q = p.1 ∙ ap (header_of f) (known_same w g.kind h.kind (trailer_of f) p.0.headed.known q.0.headed.known) ∙ sym q.1

  pub answers_same : (x y : Result Header FileFault) → Answers reads w f x → Answers reads w f y → x ≡ y
  answers_same (Ok g) (Ok h) p q = ap Ok (good_same g h p q)
  answers_same (Ok g) (Err e) p q = absurd (refused_not_good e g.kind q p.0)
  answers_same (Err e) (Ok g) p q = absurd (refused_not_good e g.kind p q.0)
  answers_same (Err d) (Err e) p q = ap Err (refused_same d e p q)
