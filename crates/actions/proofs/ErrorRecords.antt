-- Error records in bytes: what was written is read back, what stands apart is kept; and lists of them. Assumes nothing.
use Rattle.std.proofs.Common.{◌≡◌, ℕ, zero, suc, ◌+◌, ◌*◌, ◌<◌, ◌≤◌, List, [], ◌∷◌, ◌++◌, length, refl, ap, ◌∙◌, inl, inr, ⊎_elim, arith}
use Rattle.meaning.specs.Bytes.{u16_at, u32_at}
use Rattle.meaning.specs.declared.ErrorRecord.{ErrorRecord}
use Rattle.numbers.specs.Writing.{put_u16, put_u32, Apart, Agree, length_put_u16, length_put_u32, u16_agree, u32_agree, agree_put_u16, agree_put_u32, u16_put_u16, u16_put_u32, u16_back, u32_back}
use Rattle.state.specs.Layout.{errors_at}
use Rattle.actions.specs.Errors.{error_size, error_at, put_error, errors_from}

pub length_put_error : (s : List ℕ) (i : ℕ) (x : ErrorRecord) → length (put_error s i x) ≡ length s
unfolding put_error
length_put_error s i x = simp (length_put_u32, length_put_u16)

pub agree_put_error : (s : List ℕ) (i : ℕ) (x : ErrorRecord) (j m : ℕ) → Apart (errors_at + error_size * i) error_size j m → Agree (put_error s i x) s j m
unfolding put_error
agree_put_error s i x j m a k h l =
    agree_put_u32 _ (42016 + 8 * i + 4) x.mark j m (⊎_elim (λ q. inl (omega arith)) (λ q. inr (omega arith)) a) k h l
    ∙ agree_put_u16 _ (42016 + 8 * i + 2) x.state.0 j m (⊎_elim (λ q. inl (omega arith)) (λ q. inr (omega arith)) a) k h l
    ∙ agree_put_u16 s (42016 + 8 * i) x.rule j m (⊎_elim (λ q. inl (omega arith)) (λ q. inr (omega arith)) a) k h l

pub error_agree : (s t : List ℕ) (i : ℕ) → Agree s t (errors_at + error_size * i) error_size → error_at s i ≡ error_at t i
unfolding error_at
error_agree s t i a =
    cc (
      u16_agree s t (42016 + 8 * i) (λ k h l. a k (omega arith) (omega arith)),
      u16_agree s t (42016 + 8 * i + 2) (λ k h l. a k (omega arith) (omega arith)),
      u32_agree s t (42016 + 8 * i + 4) (λ k h l. a k (omega arith) (omega arith)),
    )

pub error_back : (s : List ℕ) (i : ℕ) (x : ErrorRecord) → errors_at + error_size * i + error_size ≤ length s → error_at (put_error s i x) i ≡ x
unfolding error_at put_error
error_back s i x h =
    let s₁ : List ℕ = put_u16 s (42016 + 8 * i) x.rule in
    let s₂ : List ℕ = put_u16 s₁ (42016 + 8 * i + 2) x.state.0 in
    let l₁ : length s₁ ≡ length s = length_put_u16 s (42016 + 8 * i) x.rule in
    let l₂ : length s₂ ≡ length s₁ = length_put_u16 s₁ (42016 + 8 * i + 2) x.state.0 in
    let rule : u16_at (put_u32 s₂ (42016 + 8 * i + 4) x.mark) (42016 + 8 * i) ≡ x.rule =
    u16_put_u32 s₂ _ x.mark _ (inr (omega arith)) ∙ u16_put_u16 s₁ _ x.state.0 _ (inr (omega arith)) ∙ u16_back s _ _ (omega arith) in
    let state : u16_at (put_u32 s₂ (42016 + 8 * i + 4) x.mark) (42016 + 8 * i + 2) ≡ x.state.0 =
    u16_put_u32 s₂ _ x.mark _ (inr (omega arith)) ∙ u16_back s₁ _ _ (omega arith) in
    let mark : u32_at (put_u32 s₂ (42016 + 8 * i + 4) x.mark) (42016 + 8 * i + 4) ≡ x.mark = u32_back s₂ _ _ (omega arith) in
    λ k. record { rule = rule k; state = record { 0 = state k }; mark = mark k }

-- Lists of them.
pub length_errors : (s : List ℕ) (i k : ℕ) → length (errors_from s i k) ≡ k
unfolding errors_from
length_errors s i zero = refl
length_errors s i (suc k) = ap suc (length_errors s (i + 1) k)

pub errors_last : (s : List ℕ) (i k : ℕ) → errors_from s i (k + 1) ≡ errors_from s i k ++ (error_at s (i + k) ∷ [])
unfolding errors_from
errors_last s i zero = let u : i + 0 ≡ i = omega arith in rw u
errors_last s i (suc k) =
    let u : i + suc k ≡ i + 1 + k = omega arith in
    let v : suc k + 1 ≡ suc (k + 1) = omega arith in
    rw (u, v) (ap (λ (r : List ErrorRecord). error_at s i ∷ r) (errors_last s (i + 1) k))

pub errors_kept : (s t : List ℕ) (i k : ℕ) → ((j : ℕ) → i ≤ j → j < i + k → error_at t j ≡ error_at s j) → errors_from t i k ≡ errors_from s i k
unfolding errors_from
errors_kept s t i zero e = refl
errors_kept s t i (suc k) e =
    let first = e i (omega arith) (omega arith) in
    let rest = errors_kept s t (i + 1) k (λ j h l. e j (omega arith) (omega arith)) in
    λ j. first j ∷ rest j
