use Rattle.std.proofs.Common.{◌≡◌, ℕ, ◌<◌, length, get_or}
use Rattle.turnstile.proofs.turnstile.first_words.Given as goal

abbrev pub invariant-loop-word : goal.invariant-loop-word
invariant-loop-word g l = record {
  wide : length l.words ≡ 66;
  count : get_or l.words 0 0 ≡ length (g.V.Chronicle.history l.value);
  free : get_or l.words 65 0 ≡ 0;
  shown : (k : ℕ) → 0 < k → k < l.word → get_or l.words k 0 ≡ g.V.Chronicle.published l.value k;
}
