-- 01, 'Calls and what is lent', computed: each refusal at both its edges, and the order of the checks where two apply.
use Rattle.std.specs.Prelude.{List, [], ◌∷◌, ◌++◌, ℕ}
use Rattle.controller.specs.Refusals.{power_on, byte, tick, press, emptying}
use Rattle.demands.specs.Exchanges.{Lent, Point, point, ◌⇒◌, try, empties, at_tick, change, gap}

-- lengths of the program area, the saved copy, the log, and the reply or destination; 0 for what a call is not lent
abbrev pub lent : ℕ → ℕ → ℕ → ℕ → Lent
lent p s l o = record { program = p; saved = s; log = l; out = o }

unfoldable pub calls : List Point
calls =
    -- "030 program area or saved copy is not exactly 1,600 bytes", "031 log area under [32] or over 65,536 bytes", at power-on; a
    -- refusal before it does not keep the next power-on from being accepted
    point (
    try power_on (lent 1599 1600 32 0) 30
    ∷ try power_on (lent 1601 1600 32 0) 30
    ∷ try power_on (lent 1600 1599 32 0) 30
    ∷ try power_on (lent 1600 1601 32 0) 30
    ∷ try power_on (lent 0 0 32 0) 30
    ∷ try power_on (lent 1600 1600 31 0) 31
    ∷ try power_on (lent 1600 1600 0 0) 31
    ∷ try power_on (lent 1600 1600 32 0) 0
    ∷ try power_on (lent 1600 1600 33 0) 0
    -- "Checked in that order"
    ∷ try power_on (lent 1599 1600 31 0) 30
    ∷ try power_on (lent 1600 1601 31 0) 30
    ∷ []
    )
    -- "or not the length given at power-on": the longest log
    ∷ point (
    try power_on (lent 1600 1600 65537 0) 31
    ∷ try power_on (lent 1600 1600 65536 0) 0
    ∷ try tick (lent 1600 0 32 0) 31
    ∷ []
    )
    -- "A refused power-on returns the power-on state with a log length of 0, so every later call on it is refused."
    ∷ point (
    try power_on (lent 1600 1600 31 0) 31
    ∷ try (byte 13) (lent 1600 1600 32 16) 31
    ∷ try tick (lent 1600 0 32 0) 31
    ∷ try (press 1) (lent 1600 0 32 0) 31
    ∷ try emptying (lent 0 0 32 32) 31
    ∷ try (byte 13) (lent 1600 1600 31 16) 31
    ∷ try (byte 13) (lent 1600 1600 0 16) 31
    ∷ try tick (lent 1600 0 0 0) 31
    ∷ try (press 2) (lent 1600 0 0 0) 31
    ∷ try emptying (lent 0 0 0 0) 31
    ∷ try power_on (lent 1600 1600 32 0) 0
    ∷ "CR212^" ⇒ "012^"
    ∷ []
    )
    -- the wire byte: 030 for both areas, 031, "032 reply area under 16 bytes"
    ∷ point (
    try (byte 67) (lent 1599 1600 32 16) 30
    ∷ try (byte 67) (lent 1601 1600 32 16) 30
    ∷ try (byte 67) (lent 1600 1599 32 16) 30
    ∷ try (byte 67) (lent 1600 1601 32 16) 30
    ∷ try (byte 67) (lent 1600 1600 31 16) 31
    ∷ try (byte 67) (lent 1600 1600 33 16) 31
    ∷ try (byte 67) (lent 1600 1600 48 16) 31
    ∷ try (byte 67) (lent 1600 1600 32 15) 32
    ∷ try (byte 67) (lent 1600 1600 32 0) 32
    -- "Checked in that order"
    ∷ try (byte 67) (lent 1599 1600 33 16) 30
    ∷ try (byte 67) (lent 1600 1601 32 15) 30
    ∷ try (byte 67) (lent 1600 1600 33 15) 31
    -- "A refusal [...] leaves the state": none of these was received
    ∷ "CR206" ⇒ ""
    ∷ try (byte 13) (lent 1600 1600 32 15) 32
    ∷ try (byte 13) (lent 1599 1600 32 16) 30
    ∷ try (byte 13) (lent 1600 1600 33 16) 31
    ∷ try (byte 88) (lent 1600 1600 32 15) 32
    ∷ "^" ⇒ "00^"
    ∷ try (byte 67) (lent 1600 1600 32 16) 0
    ∷ try (byte 82) (lent 1600 1600 32 17) 0
    ∷ "I^" ⇒ "00^"
    ∷ []
    )
    -- the tick, which is not lent the saved copy: 030, 031; its order
    ∷ point (
    try tick (lent 1599 0 32 0) 30
    ∷ try tick (lent 1601 0 32 0) 30
    ∷ try tick (lent 1600 0 31 0) 31
    ∷ try tick (lent 1600 0 33 0) 31
    ∷ try tick (lent 1599 0 33 0) 30
    ∷ try tick (lent 1600 0 32 0) 0
    ∷ try tick (lent 1600 1599 32 0) 0
    -- two of these were taken
    ∷ "CW20601^" ⇒ "OK^"
    ∷ empties (change 255 2 1 0)
    ∷ []
    )
    -- "033 tick count is already 4,294,967,295 (tick only)", and one below; "A refused tick is not taken." The State line of two ticks
    -- has had one of them.
    ∷ point (
    "CW000S00000000010002^" ⇒ "OK^"
    ∷ at_tick 4294967294
    ∷ "!CR201^" ⇒ "82^"
    ∷ try tick (lent 1600 0 32 0) 0
    ∷ try tick (lent 1600 0 32 0) 33
    ∷ try tick (lent 1600 0 32 0) 33
    ∷ "CR211^CR206^CR201^" ⇒ "000^01^82^"
    -- "Checked in that order"; no other call is refused
    ∷ try tick (lent 1599 0 32 0) 30
    ∷ try tick (lent 1600 0 33 0) 31
    ∷ try (press 2) (lent 1600 0 32 0) 0
    ∷ "CR201^" ⇒ "83^"
    -- the change was at the tick before, FF FF FF FE
    ∷ empties (0x1E ∷ 0xE2 ∷ 1 ∷ 0 ∷ 255 ∷ 255 ∷ 255 ∷ 254 ∷ 0 ∷ 0 ∷ 0 ∷ 1 ∷ 0 ∷ 0 ∷ 0 ∷ 0 ∷ [])
    ∷ try power_on (lent 1600 1600 32 0) 0
    ∷ try tick (lent 1600 0 32 0) 0
    ∷ []
    )
    -- the button: "034 button number other than 1 or 2"
    ∷ point (
    "CW000S00000000010002^" ⇒ "OK^"
    ∷ try (press 0) (lent 1600 0 32 0) 34
    ∷ try (press 3) (lent 1600 0 32 0) 34
    ∷ try (press 255) (lent 1600 0 32 0) 34
    ∷ try (press 1) (lent 1599 0 32 0) 30
    ∷ try (press 1) (lent 1601 0 32 0) 30
    ∷ try (press 1) (lent 1600 0 31 0) 31
    ∷ try (press 1) (lent 1600 0 33 0) 31
    ∷ try (press 3) (lent 1599 0 33 0) 30
    ∷ try (press 3) (lent 1600 0 33 0) 31
    ∷ try (press 3) (lent 1601 0 32 0) 30
    ∷ "CR201^" ⇒ "80^"
    ∷ try (press 2) (lent 1600 0 32 0) 0
    ∷ "CR201^" ⇒ "80^"
    ∷ try (press 1) (lent 1600 1599 32 0) 0
    ∷ "CR201^" ⇒ "82^"
    ∷ try (press 2) (lent 1600 0 32 0) 0
    ∷ "CR201^" ⇒ "83^"
    ∷ try (press 3) (lent 1600 0 32 0) 34
    ∷ "CR201^" ⇒ "83^"
    ∷ []
    )
    -- emptying, which is lent the log and a destination alone: "035 destination shorter than the records held"
    ∷ point (
    try emptying (lent 0 0 31 32) 31
    ∷ try emptying (lent 0 0 33 32) 31
    ∷ try emptying (lent 0 0 32 0) 0
    ∷ "CW20601^" ⇒ "OK^"
    ∷ try emptying (lent 0 0 32 15) 35
    ∷ try emptying (lent 0 0 32 0) 35
    ∷ try emptying (lent 0 0 33 15) 31
    ∷ try emptying (lent 0 0 32 16) 0
    ∷ try emptying (lent 0 0 32 0) 0
    ∷ "CW20602^CW20603^CW20604^" ⇒ "OK^OK^OK^"
    ∷ try emptying (lent 0 0 32 31) 35
    -- "leaves the state": what is held is held still
    ∷ empties (change 255 0 2 1 ++ gap 0 2 4)
    ∷ []
    )
    ∷ []
