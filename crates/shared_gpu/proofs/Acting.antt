-- What the calls of a group's link did at the back, where nothing is told of that.
use Rattle.std.proofs.Common.{◌≡◌, ℕ, true, false, Bool, List, [], ◌∷◌, length, refl, sym, ap, subst, arith}
use Rattle.std.proofs.lemmas.Bool.{false≢true}
use Rattle.std.specs.Prelude.{None, Result, Ok, Err, IfOk, OnOk, OnErr, is_err, ⊤}
use Rattle.vk_types.specs.declared.stops.Stop.{Stop}
use Rattle.vk_types.specs.declared.handles.HandleId.{HandleId}
use Rattle.vk_types.specs.declared.handles.Kind.{Kind}
use Rattle.vk_types.specs.declared.batches.Batch.{Batch}
use Rattle.vk_types.specs.declared.batches.QueueSerial.{QueueSerial}
use Rattle.back_core.specs.Own.{next_number}
use Rattle.back_core.specs.Link.{Link, created, wrote, enqueued, fetched, gave, abandoned}
use Rattle.back_core.specs.Answers.{Learns, Completes, Waits}
use Rattle.back_core.specs.Frame.{NoBatch, AtBack}
use Rattle.back_core.proofs.Frames.{nothing_done, create_done, write_done, enqueue_done, fetch_done, give_done, abandon_done, ask_done, learn_done, stop_done, within, no_batch}
use Rattle.back_core.proofs.Waiting.{learns_nothing}

-- the answer is passed on
pub passed_on : {T : Type 0} (s t : Link) (due : ℕ) (waits : Bool) (r answer : Result T Stop) → answer ≡ r → AtBack s t None None due waits (is_err r) NoBatch → AtBack s t None None due waits (is_err answer) NoBatch
passed_on s t due waits r answer same did = subst (λ x. AtBack s t None None due waits (is_err x) NoBatch) (sym same) did

stop_acts : (s t : Link) → t ≡ s → AtBack s t None None 0 false true NoBatch
stop_acts s t same = stop_done s t None None false (subst (λ l. Learns s l) (sym same) (learns_nothing s)) (λ no. ap (λ (l : Link). l.now) same) refl

pub create_acts : (s t : Link) (kind : Kind) (r : Result HandleId Stop) → IfOk r (λ id. t ≡ created s id.0 kind) → OnErr r (t ≡ s) → AtBack s t None None 0 false (is_err r) NoBatch
create_acts s t kind (Ok id) ok err = create_done s t None None id.0 kind ok refl (λ was. was)
create_acts s t kind (Err stop) ok err = stop_acts s t err

pub write_acts : (s t : Link) (id at : ℕ) (bytes : List ℕ) (r : Result ⊤ Stop) → OnOk r (t ≡ wrote s id at bytes) → OnErr r (t ≡ s) → AtBack s t None None (length bytes) false (is_err r) NoBatch
write_acts s t id at bytes (Ok u) ok err = write_done s t None None id at bytes ok refl (λ was. was)
write_acts s t id at bytes (Err stop) ok err = within (length bytes) false true NoBatch (omega arith) (λ on. on) (λ on. on) (λ batch none. none) (stop_acts s t err)

pub enqueue_acts : {A B : Type 0} (s t : Link) (batch : Batch) → batch.number ≡ next_number s.mine batch.index → (r : Result A B) → OnOk r (t ≡ enqueued s batch) → OnErr r (t ≡ s) → AtBack s t None None 0 false false (λ b. b ≡ batch)
enqueue_acts s t batch next (Ok u) ok err = enqueue_done (λ b. b ≡ batch) s t None None batch refl next ok refl (λ was. was)
enqueue_acts s t batch next (Err b) ok err = within 0 false false (λ b. b ≡ batch) (omega arith) (λ on. on) (λ on. on) (no_batch (λ b. b ≡ batch)) (nothing_done s t None None err refl (λ was. was))

pub ask_acts : (s t : Link) (index number : ℕ) → Completes s t index number → AtBack s t None None 0 false false NoBatch
ask_acts s t index number asks = ask_done s t None None index number asks refl (λ was. was)

pub wait_acts : {T : Type 0} (s t : Link) (index number : ℕ) (r : Result T Stop) → OnOk r (Waits s t index number) → OnErr r (Learns s t) → AtBack s t None None 0 true (is_err r) NoBatch
wait_acts s t index number (Ok u) ok err = learn_done s t None None ok.learns refl (λ was. was)
wait_acts s t index number (Err stop) ok err = stop_done s t None None true err (λ no. absurd (false≢true (sym no))) refl

pub fetch_acts : (s t : Link) (id at : ℕ) (bytes : List ℕ) (r : Result ⊤ Stop) → OnOk r (t ≡ fetched s id at bytes) → OnErr r (t ≡ s) → AtBack s t None None 0 false (is_err r) NoBatch
fetch_acts s t id at bytes (Ok u) ok err = fetch_done s t None None id at bytes ok refl (λ was. was)
fetch_acts s t id at bytes (Err stop) ok err = stop_acts s t err

pub give_acts : (s t : Link) (id : ℕ) (uses : List QueueSerial) → t ≡ gave s id uses → AtBack s t None None 0 false false NoBatch
give_acts s t id uses is = give_done s t None None id uses is refl (λ was. was)

pub abandon_acts : (s t : Link) (id : ℕ) → t ≡ abandoned s id → AtBack s t None None 0 false false NoBatch
abandon_acts s t id is = abandon_done s t None None id is refl (λ was. was)
