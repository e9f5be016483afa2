-- What a call leaves of a group.
use Rattle.std.proofs.Common.{◌≡◌, ℕ, Bool, map, true, false, List, [], ◌∷◌, ◌++◌, refl, sym, ap, ◌∙◌, subst}
use Rattle.std.specs.Prelude.{Result, Ok, Err, IfOk, OnOk, OnErr, Contains}
use Rattle.vk_types.specs.declared.stops.Stop.{Stop}
use Rattle.gl_calls.specs.declared.call.Call.{Call}
use Rattle.gl_calls.specs.declared.reply.Reply.{Reply}
use Rattle.std.proofs.lemmas.List.{append-nil, map-append}
use Rattle.std.proofs.lemmas.List.Concat.{flat_map-append}
use Rattle.std.proofs.lemmas.List.Elements.{All-nil, All-push}
use Rattle.std.specs.List.{All}
use mathlib.Core.List.{IsPrefix}
use Rattle.gl_calls.specs.declared.reply.Entry.{Entry}
use Rattle.turnstile.specs.Histories.{own, added, NamesOnly}
use Rattle.turnstile.proofs.Laws.{begins_before, names_only_added, names_only_one, names_only_nothing, own_more, own_one}
use Rattle.group_gpu.specs.declared.noted_call.NotedCall.{NotedCall}
use Rattle.group_gpu.specs.declared.noted_call.NotedCall.TheVariants.{Founded, Answered}
use Rattle.gl_model.specs.Legal.{IsLegal}
use Rattle.back_core.specs.Link.{Link}
use Rattle.back_core.proofs.Sees.{group_of}
use Rattle.front_model.specs.Stands.{BarriersAreLicensed}
use Rattle.front_core.specs.Front.{FrontModel, FrontStands, HasAnswered, HasStopped, IsClosed, entry_of}
use Rattle.shared_gpu.specs.Notes.{events_of}
use Rattle.shared_gpu.specs.Views.{SeatModel}
use Rattle.shared_gpu.specs.Seats.{seat_link}
use Rattle.turnstile.specs.Views.{PassModel}
use Rattle.group_gpu.specs.Groups.{GroupStands, WasClosed, AreLegal, EndsWith, IsThreads, names_of, note_of, notes_of, pass_of, call_by, calls_of}

apart : true ≡ false → ⊥
apart bad = cc (bad)

pub stands_after : (r : Result Reply Stop) (old new : FrontModel) (t : Link) (thread line : ℕ) (call : Call) → IsLegal old.threads old.history → All (λ e. Contains old.threads e.thread) old.history → Contains old.threads thread → BarriersAreLicensed t
    → IfOk r (λ reply. HasAnswered old new t thread line call reply) → OnErr r (HasStopped old new t) → GroupStands new t
stands_after (Ok reply) old new t thread line call legal declared asks licensed ok err = record {
  legal = ok.stands.legal;
  declared = subst (λ l. All (λ e. Contains l e.thread) new.history) (sym ok.threads)
      (subst (λ h. All (λ e. Contains old.threads e.thread) h) (sym ok.history) (All-push (λ (e : Entry). Contains old.threads e.thread) old.history (entry_of thread line call reply) declared asks));
  licensed = licensed;
  stands = λ runs. ok.stands;
  owns = λ stopped. absurd (apart (sym stopped ∙ ok.stands.running));
}
stands_after (Err stop) old new t thread line call legal declared asks licensed ok err = record {
  legal = subst (λ l. IsLegal l new.history) (sym err.threads) (subst (λ h. IsLegal old.threads h) (sym err.history) legal);
  declared = subst (λ l. All (λ e. Contains l e.thread) new.history) (sym err.threads) (subst (λ h. All (λ e. Contains old.threads e.thread) h) (sym err.history) declared);
  licensed = licensed;
  stands = λ runs. absurd (apart (sym err.stopped ∙ runs));
  owns = λ stopped. err.owns;
}

pub stands_newly : (f : FrontModel) (s : Link) → FrontStands f s → f.history ≡ [] → BarriersAreLicensed s → GroupStands f s
stands_newly f s front empty licensed = record {
  legal = front.legal;
  declared = subst (λ h. All (λ e. Contains f.threads e.thread) h) (sym empty) (All-nil (λ (e : Entry). Contains f.threads e.thread));
  licensed = licensed;
  stands = λ runs. front;
  owns = λ stopped. absurd (apart (sym stopped ∙ front.running));
}

-- A group's handles are let go.

pub licensed_still : (s t : Link) → t ≡ record s { held = t.held } → BarriersAreLicensed s → BarriersAreLicensed t
licensed_still s t same licensed = subst BarriersAreLicensed (sym same) (licensed_with s t.held licensed)
  where
    licensed_with : (s : Link) (held : ℕ → Bool) → BarriersAreLicensed s → BarriersAreLicensed (record s { held = held })
    licensed_with s held licensed = licensed

pub closed_then : (r : Result (Unit {0}) Stop) (f after : FrontModel) (s t : Link) → t ≡ record s { held = t.held } → OnOk r (f.stopped ≡ false → IsClosed f after s) → OnOk r (f.stopped ≡ false → WasClosed f t)
closed_then (Ok u) f after s t same closed = λ runs. record { closed = after; link = s; is = closed runs; let_go = same }
closed_then (Err stop) f after s t same closed = closed

pub same_rest : (s t u : Link) → t ≡ record s { held = t.held } → u ≡ t → u ≡ record s { held = u.held }
same_rest s t u rest same = subst (λ (k : Link). k ≡ record s { held = k.held }) (sym same) rest

-- what holds of two links holds of the same ones
pub moved : (P : Link → Link → Type 0) (a a' b b' : Link) → a ≡ a' → b' ≡ b → P a b → P a' b'
moved P a a' b b' was now p = subst (λ k. P k b') was (subst (λ l. P a l) (sym now) p)

-- The group of a seat

pub same_group : (s t : SeatModel) → (seat_link t).group ≡ (seat_link s).group → t.group ≡ s.group
same_group s t same = sym (group_of (events_of t.pass.seen) t.group) ∙ (same ∙ group_of (events_of s.pass.seen) s.group)

-- The threads and the history of a front after a call

pub threads_after : (r : Result Reply Stop) (old new : FrontModel) (t : Link) (thread line : ℕ) (call : Call) → IfOk r (λ reply. HasAnswered old new t thread line call reply) → OnErr r (HasStopped old new t) → new.threads ≡ old.threads
threads_after (Ok reply) old new t thread line call ok err = ok.threads
threads_after (Err stop) old new t thread line call ok err = err.threads

pub history_ok : (r : Result Reply Stop) (old new : FrontModel) (t : Link) (thread line : ℕ) (call : Call) → IfOk r (λ reply. HasAnswered old new t thread line call reply) → IfOk r (λ reply. new.history ≡ old.history ++ entry_of thread line call reply ∷ [])
history_ok (Ok reply) old new t thread line call ok = ok.history
history_ok (Err stop) old new t thread line call ok = ok

pub history_err : (r : Result Reply Stop) (old new : FrontModel) (t : Link) → OnErr r (HasStopped old new t) → OnErr r (new.history ≡ old.history)
history_err (Ok reply) old new t err = err
history_err (Err stop) old new t err = err.history

-- What a turn with a call adds to the history of a group.

abbrev pub notes_grow : (g : ℕ) (threads : List ℕ) (h : List Entry) (e : Entry) → notes_of g threads (h ++ e ∷ []) ≡ notes_of g threads h ++ note_of threads e ∷ []
notes_grow g threads h e = ap (λ l. Founded g threads ∷ l) (map-append (note_of threads) h (e ∷ []))

module _ (n g g' thread line : ℕ) (threads threads' : List ℕ) (h h' : List Entry) (call : Call) (same_group : g' ≡ g) (same_threads : threads' ≡ threads) (number : pass_of threads thread ≡ n) where
  note_is : (reply : Reply) → note_of threads (entry_of thread line call reply) ≡ Answered n (entry_of thread line call reply)
  note_is reply = ap (λ k. Answered k (entry_of thread line call reply)) number

  more_ok : (reply : Reply) → h' ≡ h ++ entry_of thread line call reply ∷ [] → notes_of g' threads' h' ≡ notes_of g threads h ++ Answered n (entry_of thread line call reply) ∷ []
  more_ok reply is = (λ i. notes_of (same_group i) (same_threads i) (is i)) ∙ (notes_grow g threads h (entry_of thread line call reply) ∙ ap (λ x. notes_of g threads h ++ x ∷ []) (note_is reply))

  more_err : h' ≡ h → notes_of g' threads' h' ≡ notes_of g threads h ++ []
  more_err is = (λ i. notes_of (same_group i) (same_threads i) (is i)) ∙ sym (append-nil (notes_of g threads h))

  pub group_adds : (seen : List NotedCall) (r : Result Reply Stop) → seen ≡ notes_of g threads h → IfOk r (λ reply. h' ≡ h ++ entry_of thread line call reply ∷ []) → OnErr r (h' ≡ h)
      → IsPrefix seen (notes_of g' threads' h') × NamesOnly names_of n (added seen (notes_of g' threads' h'))
  group_adds seen (Ok reply) is ok err =
      let e = Answered n (entry_of thread line call reply) in
      let more : notes_of g' threads' h' ≡ notes_of g threads h ++ e ∷ [] = more_ok reply ok in (
        begins_before seen (notes_of g threads h) (notes_of g' threads' h') (e ∷ []) is more,
        names_only_added names_of n seen (notes_of g threads h) (notes_of g' threads' h') (e ∷ []) is more (names_only_one names_of n e refl),
      )
  group_adds seen (Err stop) is ok err =
      let more : notes_of g' threads' h' ≡ notes_of g threads h ++ [] = more_err err in (
        begins_before seen (notes_of g threads h) (notes_of g' threads' h') [] is more,
        names_only_added names_of n seen (notes_of g threads h) (notes_of g' threads' h') [] is more (names_only_nothing names_of n),
      )

  pub ends_with : (was now : List NotedCall) (r : Result Reply Stop) → IsPrefix was (notes_of g threads h) → own names_of n (notes_of g threads h) ≡ own names_of n was → now ≡ notes_of g' threads' h'
      → IfOk r (λ reply. h' ≡ h ++ entry_of thread line call reply ∷ []) → IfOk r (λ reply. EndsWith n was now (entry_of thread line call reply))
  ends_with was now (Ok reply) begins same seen ok = record { before = notes_of g threads h; begins = begins; same = same; is = seen ∙ more_ok reply ok }
  ends_with was now (Err stop) begins same seen ok = ok

  pub group_own : (was seen now : List NotedCall) (r : Result Reply Stop) → seen ≡ notes_of g threads h → own names_of n (notes_of g threads h) ≡ own names_of n was → own names_of n now ≡ own names_of n seen ++ own names_of n (added seen (notes_of g' threads' h'))
      → IfOk r (λ reply. h' ≡ h ++ entry_of thread line call reply ∷ []) → IfOk r (λ reply. own names_of n now ≡ own names_of n was ++ Answered n (entry_of thread line call reply) ∷ [])
  group_own was seen now (Ok reply) is kept grown ok =
      let e = Answered n (entry_of thread line call reply) in
      own_more names_of n (e ∷ []) was seen (notes_of g threads h) (notes_of g' threads' h') now kept is (more_ok reply ok) grown ∙ ap (λ l. own names_of n was ++ l) (own_one names_of n e refl)
  group_own was seen now (Err stop) is kept grown ok = ok

-- the threads that a pass has seen are those of the group
pub same_founding : (g g' : ℕ) (threads threads' : List ℕ) (seen more : List NotedCall) (h : List Entry) → seen ≡ Founded g threads ∷ more → IsPrefix seen (notes_of g' threads' h) → threads ≡ threads'
same_founding g g' threads threads' seen more h is begins = founded g g' threads threads' (more ++ begins.0) (map (note_of threads') h) (ap (λ l. l ++ begins.0) (sym is) ∙ begins.1)
  where
    founded : (g g' : ℕ) (threads threads' : List ℕ) (xs ys : List NotedCall) → Founded g threads ∷ xs ≡ Founded g' threads' ∷ ys → threads ≡ threads'
    founded g g' threads threads' xs ys e = cc (e)

-- The calls by the entries

calls_all : (threads : List ℕ) (h : List Entry) → calls_of (map (note_of threads) h) ≡ h
calls_all threads [] = refl
calls_all threads (e ∷ h) = ap (λ l. e ∷ l) (calls_all threads h)

pub calls_noted : (g : ℕ) (threads : List ℕ) (h : List Entry) → calls_of (notes_of g threads h) ≡ h
calls_noted g threads h = calls_all threads h

pub calls_begin : (xs ys : List NotedCall) → IsPrefix xs ys → IsPrefix (calls_of xs) (calls_of ys)
calls_begin xs ys p = (calls_of p.0, sym (flat_map-append call_by xs p.0) ∙ ap calls_of p.1)

-- a pass that has seen more is of the same thread
pub still_threads : (p q : PassModel NotedCall) (thread : ℕ) → IsPrefix p.seen q.seen → q.number ≡ p.number → IsThreads p thread → IsThreads q thread
still_threads p q thread begins number mine = record {
  group = mine.group;
  threads = mine.threads;
  more = mine.more ++ begins.0;
  seen_is = sym begins.1 ∙ ap (λ l. l ++ begins.0) mine.seen_is;
  declared = mine.declared;
  number = mine.number ∙ sym number;
}

-- what a group's turnstile keeps where its history is legal
pub are_legal : (g : ℕ) (threads : List ℕ) (h : List Entry) (seen : List NotedCall) → seen ≡ notes_of g threads h → IsLegal threads h → AreLegal seen
are_legal g threads h seen is legal = record { group = g; threads = threads; history = h; is = is; legal = legal }
