-- What is said of the header that a trailer gives is said of the file.
use Rattle.std.proofs.Common.{◌≡◌, ℕ, ◌+◌, ◌<◌, ◌≤◌, List, length, Ok, Option, sym, ap, ◌∙◌, subst, arith}
use Rattle.ruleformat.specs.declared.format.Header.{Header}
use Rattle.ruleformat.specs.declared.format.Kind.{Kind}
use Rattle.ruleformat.specs.declared.format.Trailer.{Trailer}
use Rattle.ruleformat.specs.declared.fault.FileFault.TheVariants as fault
use Rattle.ruleformat.specs.Bytes.{trailer_place, trailer_of}
use Rattle.ruleformat.specs.Layout.{Known, Ranged, Laid, header_at, header_of, entry_place, verdict_place}
use Rattle.ruleformat.specs.Faults.{Right, AllRight, Reads, FirstWrong, Headed, Good, Refused, Answers}

module _ (w : Option Kind) (f : List ℕ) (kd : Kind) (t : Trailer) (at : ℕ) (long : 16 ≤ length f) (is : t ≡ trailer_of f) (end : at + 16 ≡ length f) (known : Known w kd t) (ranged : Ranged t) (laid : Laid (at + 16) kd t) where
  pub headed : Headed w f kd
  headed = record {
    long = long;
    known = subst (Known w kd) is known;
    ranged = subst Ranged is ranged;
    laid = subst (λ (n : ℕ). Laid n kd (trailer_of f)) end (subst (Laid (at + 16) kd) is laid);
  }

  module _ (h : Header) (here : h ≡ header_at at kd t) where
    pub header_is : h ≡ header_of f kd
    header_is = let place : at ≡ trailer_place f = omega arith in here ∙ (λ i. header_at (place i) kd (is i))

    module _ {V : Type 0} (reads : ℕ → Option V) where
      pub entry_refused : (i p : ℕ) → FirstWrong (Right h.kind f h) h.entries i → p ≡ entry_place h.kind h i → Refused reads w f (fault.Entry p)
      entry_refused i p wrong e =
          (kd, i, headed, subst (λ (x : Header). FirstWrong (Right x.kind f x) x.entries i) header_is wrong, e ∙ ap (λ (x : Header). entry_place x.kind x i) header_is)

      module _ (entries : AllRight h.kind f h) where
        all_right : AllRight kd f (header_of f kd)
        all_right = subst (λ (x : Header). AllRight x.kind f x) header_is entries

        pub verdict_refused : (s p : ℕ) → FirstWrong (Reads reads f h) h.states s → p ≡ verdict_place h s → Refused reads w f (fault.Verdict p)
        verdict_refused s p wrong e =
            (kd, s, headed, all_right, subst (λ (x : Header). FirstWrong (Reads reads f x) x.states s) header_is wrong, e ∙ ap (λ (x : Header). verdict_place x s) header_is)

        pub answer_is : ((s : ℕ) → s < h.states → Reads reads f h s) → Answers reads w f (Ok h)
        answer_is verdicts =
            let kind : h.kind ≡ kd = ap (λ (x : Header). x.kind) here in
            let good : Good reads w f kd = record { headed = headed; entries = all_right; verdicts = subst (λ (x : Header). (s : ℕ) → s < x.states → Reads reads f x s) header_is verdicts } in
            (subst (Good reads w f) (sym kind) good, header_is ∙ ap (header_of f) (sym kind))
