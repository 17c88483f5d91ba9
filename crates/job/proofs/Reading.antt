-- A text, the buffer that it was read into, and what is written for it. Assumes nothing.
use Rattle.std.proofs.Common.{◌≡◌, ℕ, ◌+◌, ◌≤◌, ◌<◌, min, List, ◌++◌, Option, None, Some, IfSome, length, take, sym, ap, ◌∙◌, subst, refl, arith, length-append, length-take-le, []}
use Rattle.std.proofs.lemmas.List.{take_at}
use lib.Seq.{take-take}
use Rattle.std.specs.Io.KnownBytes.{Appends, Consumes, IsAtEnd}
use Rattle.statement.specs.Job.{job, text_limit, ReadIn, Works, answer_in}
use Rattle.frames.proofs.Limit.{job_read}
use Rattle.jobs.proofs.Working.{answer_fits}

-- the buffer is long enough, and k is no more than it holds
pub read_says : (text buffer : List ℕ) (k n : ℕ) → text_limit ≤ length buffer → n ≡ min k (length buffer) → ReadIn text buffer k → job (take n buffer) ≡ job text
read_says text buffer k n l e h = let m : n ≡ k = omega (arith, h.0) in ap (λ x. job (take x buffer)) m ∙ job_read text buffer k l h

-- what was read is a text of its own
reads_itself : (buffer : List ℕ) {k : ℕ} → k ≤ length buffer → ReadIn (take k buffer) buffer k
reads_itself buffer {k} h = (omega (arith, length-take-le k buffer h), sym (take-take k k buffer (omega arith)))

-- what is answered for what was read fits
pub fits : (buffer out₀ : List ℕ) {out : List ℕ} {k r : ℕ} → k ≤ length buffer → ((text : List ℕ) → ReadIn text buffer k → Works text out₀ (record { out = out; bytes = r })) → r ≤ length out
fits buffer out₀ {out} {k} {r} l w = answer_fits (job (take k buffer)) out₀ (w (take k buffer) (reads_itself buffer l))

-- k bytes that were taken from a text, the last of it where the buffer holds more
taken : (text rest buffer : List ℕ) (k : ℕ) → k ≤ length buffer → text ≡ take k buffer ++ rest → (k < length buffer → rest ≡ []) → ReadIn text buffer k
taken text rest buffer k l e f =
    let long : length text ≡ k + length rest = ap length e ∙ length-append (take k buffer) rest ∙ ap (λ n. n + length rest) (length-take-le k buffer l) in
    let short : k < length buffer → length rest ≡ 0 = λ h. ap length (f h) in
    (grind (arith, short), sym (ap (take k) e ∙ take_at (take k buffer) rest k (length-take-le k buffer l)))

-- the bytes that go out are the answer
goes_out : (answer out₀ : List ℕ) {out : List ℕ} {r : ℕ} → record { out = out; bytes = r } ≡ answer_in answer out₀ → take r out ≡ answer
unfolding answer_in
goes_out answer out₀ w = ap (λ x. take x.bytes x.out) w ∙ take_at answer _ _ refl

-- so what goes out for what was read is the text's answer
pub tells : (old new a b : Option (List ℕ)) (buffer out₀ : List ℕ) {out : List ℕ} {k r : ℕ} → k ≤ length buffer → Consumes old new (take k buffer) → (k < length buffer → IsAtEnd new) → ((text : List ℕ) → ReadIn text buffer k → Works text out₀ (record { out = out; bytes = r })) → Appends a b (take r out) → IfSome old (λ text. Appends a b (job text))
tells None new a b buffer out₀ l e f w h = tt
tells (Some text) None a b buffer out₀ l e f w h = absurd e
tells (Some text) (Some rest) a b buffer out₀ {out} {k} {r} l e f w h = subst (Appends a b) (goes_out _ _ (w text (taken text rest buffer k l e f))) h
