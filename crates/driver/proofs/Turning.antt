-- The loop that receives a reply: whatever the rest comes to from here is what all of it comes to. Assumes nothing.
use Rattle.std.proofs.Common.{◌≡◌, ℕ, ◌+◌, ◌<◌, ◌≤◌, Bool, true, false, List, length, ℤ, Ok, Err, Result, refl, sym, ◌∙◌, subst, arith}
use Rattle.reader.specs.Replies.{State, at, took, over}
use Rattle.reader.specs.declared.stage.Stage.TheVariants.{Going}
use Rattle.reader.specs.declared.stage.Stage.{Stage}
use Rattle.reader.specs.declared.fault.TurnFault.{TurnFault}
use Rattle.hosts.specs.Events.{Event, received, datagram, failed, laid}
use Rattle.driver.specs.declared.fault.ExchangeFault.{ExchangeFault}
use Rattle.driver.specs.declared.fault.ExchangeFault.TheVariants.{Open, Send, Receive, Turn}
use Rattle.driver.specs.Exchanges.{unopened, unsent, not_opened, not_sent, replied, Sends, Told, Close, lost, stopped, Receives, fails, more, ended, full, overlay, came, Collected, Replied, read_as}

module _ {H T : Type 0} (did : H → Event → H → Type 0) (fed : T → List ℕ → Result T TurnFault) (s₀ : State T) (h₀ : H) (b₀ : List ℕ) where
  pub record Leads (i : ℕ) (s : State T) (h : H) (b : List ℕ) : Type 0 where
    pub on : (c : Close) (t : State T) (k : H) (r : Receives did fed (length b₀) i s h c t k) →
        Collected did fed (length b₀) s₀ h₀ b₀ c t (i + length (came did fed (length b₀) r)) k (overlay b (came did fed (length b₀) r))

module _ {H T : Type 0} {did : H → Event → H → Type 0} {fed : T → List ℕ → Result T TurnFault} {s₀ : State T} {h₀ : H} {b₀ : List ℕ} where
  -- where no more came
  here : {c : Close} {t : State T} {k : H} {n : ℕ} {b : List ℕ} → Collected did fed (length b₀) s₀ h₀ b₀ c t (n + 0) k b → Collected did fed (length b₀) s₀ h₀ b₀ c t n k b
  here x = record { trace = x.trace; laid = x.laid; count = omega (arith, x.count) }

  -- before the first
  pub start : Leads did fed s₀ h₀ b₀ 0 s₀ h₀ b₀
  start = record { on = λ c t k r. record { trace = r; laid = refl; count = omega arith } }

  module _ {i : ℕ} {s : State T} {h : H} {b : List ℕ} (l : Leads did fed s₀ h₀ b₀ i s h b) where
    pub one_more : (d : List ℕ) {j : H} {u : State T} {b' : List ℕ} → length b ≡ length b₀ → did h (received (length b) (datagram d)) j → b' ≡ laid b (datagram d) →
        u ≡ took fed s d → over s.stage ≡ false → i < 4096 → Leads did fed s₀ h₀ b₀ (i + 1) u j b'
    one_more d size p f e o w = rw (e, f) (record {
      on = λ c t k r.
          let x = l.on c t k (more w o (rw (← size) p) r) in
          record { trace = x.trace; laid = x.laid; count = omega (arith, x.count) };
    })

  module _ {i n : ℕ} {x : Stage} {u : T} {h : H} {b : List ℕ} (l : Leads did fed s₀ h₀ b₀ i (at x u) h b) where
    pub at_failure : {e z : ℤ} {j : H} {b' : List ℕ} → did h (received (length b) (failed e)) j → b' ≡ b → z ≡ e → n ≡ i → over x ≡ false → i < 4096 → length b ≡ length b₀ →
        Replied did fed s₀ h₀ b₀ (Err (Receive z)) u n j b'
    at_failure {e} {j = j} p f same m o w size = rw (same, f, m) (record {
      close = lost e;
      final = at x u;
      collected = here (l.on (lost e) (at x u) j (fails w o (rw (← size) p)));
      closes = refl;
      table = refl;
    })

    pub at_end : {r : Result (Unit {0}) ExchangeFault} → r ≡ read_as x → n ≡ i → over x ≡ true → Replied did fed s₀ h₀ b₀ r u n h b
    at_end z m o = rw m (record { close = stopped; final = at x u; collected = here (l.on stopped (at x u) h (ended o)); closes = z; table = refl })

    pub at_limit : {r : Result (Unit {0}) ExchangeFault} → r ≡ read_as x → 4096 ≤ i → i ≤ 4096 → n ≡ 4096 → Replied did fed s₀ h₀ b₀ r u n h b
    at_limit {r} z low high m = by (over x) refl
      where
        all : i ≡ 4096
        all = omega arith

        by : (o : Bool) → over x ≡ o → Replied did fed s₀ h₀ b₀ r u n h b
        by true o = at_end z (m ∙ sym all) o
        by false o =
            let y = (subst (λ k. Leads did fed s₀ h₀ b₀ k (at x u) h b) all l).on stopped (at x u) h (full o) in
            rw m (record { close = stopped; final = at x u; collected = here y; closes = z; table = refl })

-- the ways out of the loop
pub ruleset ways_out = (at_failure, at_end, at_limit)

module _ {H T : Type 0} (did : H → Event → H → Type 0) (fed : T → List ℕ → Result T TurnFault) (q b : List ℕ) (u : T) (h : H) where
  -- a request that was not sent
  pub told_unasked : (f : ExchangeFault) {k : H} → Sends did q h (Err f) k → Told did fed q u h b (Err f) u 0 k b
  told_unasked (Open e) p = record { close = unopened e; final = at Going u; asked = record { trace = not_opened p; laid = refl; count = refl }; closes = refl; table = refl }
  told_unasked (Send e) p = record { close = unsent e; final = at Going u; asked = record { trace = not_sent p.1 p.2; laid = refl; count = refl }; closes = refl; table = refl }
  told_unasked (Receive e) p = absurd p
  told_unasked (Turn f) p = absurd p

  -- one that was, and its reply
  pub told_replied : {j k : H} {r : Result (Unit {0}) ExchangeFault} {u' : T} {n : ℕ} {b' : List ℕ} →
      Sends did q h (Ok tt) j → Replied did fed (at Going u) j b r u' n k b' → Told did fed q u h b r u' n k b'
  told_replied p x =
      let c = x.collected in
      record { close = x.close; final = x.final; asked = record { trace = replied p.1 p.2 c.trace; laid = c.laid; count = c.count }; closes = x.closes; table = x.table }
