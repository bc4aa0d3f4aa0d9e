-- The worked points of 01 that are marked P, as one list in the language of Exchanges.
-- All start from a power-on whose saved copy holds 200 end marks with outputs 0 and whose log has 32 bytes, the least, and end with an
-- emptying of the log. 02, item 8: "the worked points take 32 bytes for 24".
use Rattle.std.specs.Prelude.{ℕ, List, [], ◌∷◌, ◌++◌}
use Rattle.demands.specs.Exchanges.{Step, Point, ◌⇒◌, ◌⇒◌runs◌, empties}
use Rattle.demands.specs.Exchanges as Exchanges

-- no change is logged
abbrev pub point : List Step → Point
point ss = Exchanges.point (ss ++ (empties [] ∷ []))

-- what emptying then copies
infix 68 ◌logs◌
abbrev pub ◌logs◌ : List Step → List ℕ → Point
ss logs rs = Exchanges.point (ss ++ (empties rs ∷ []))

-- ---- the points, in the paper's order

unfoldable pub points : List Point
points =
    -- "13 alone, E001. `CR`+13, E001."
    point ("^" ⇒ "E001^" ∷ [])
    ∷ point ("CR^" ⇒ "E001^" ∷ [])
    -- "`CRI`+13 after power-on reads address 001." 02, item 7: "The worked point that reads 001 now reads 000": no address is before it,
    -- and none but 000 holds that line.
    ∷ point ("CRI^" ⇒ "S00000000000000^" ∷ "CRD^" ⇒ "E004^" ∷ [])
    ∷ point ("CW000F10001^" ⇒ "OK^" ∷ "CW001F20002^" ⇒ "OK^" ∷ "CRI^" ⇒ "F10001^" ∷ [])
    -- "`CR217`+13, E004. `CR216`+13, 0000."
    ∷ point ("CR217^" ⇒ "E004^" ∷ "CR216^" ⇒ "0000^" ∷ [])
    -- "first read of 201 is 80, of 212 is 012, then 201 is 00."
    ∷ point ("CR201^" ⇒ "80^" ∷ "CR212^" ⇒ "012^" ∷ "CR201^" ⇒ "00^" ∷ [])
    -- "`cw 000 f 1 0003`+13, OK; reads back `F10003`. Counter 5: E003." and nothing stored
    ∷ point ("cw 000 f 1 0003^" ⇒ "OK^" ∷ "CR000^" ⇒ "F10003^" ∷ "cw 000 f 5 0003^" ⇒ "E003^" ∷ "CR000^" ⇒ "F10003^" ∷ [])
    -- "F 1 0003; S 01 for 0002; N 1; end mark 0: outputs 1 from the start, counter 3, after tick 2 counter 2, ends at tick 6 with
    -- 011."
    ∷ (
    "CW000F10003^" ⇒ "OK^"
    ∷ "CW001S00000000010002^" ⇒ "OK^"
    ∷ "CW002N1^" ⇒ "OK^"
    ∷ "CW003S00000000000000^" ⇒ "OK^"
    ∷ "CW210003^" ⇒ "OK^" runs 1
    ∷ "CR206^" ⇒ "01^"
    ∷ "CR213^" ⇒ "0003^"
    ∷ "#" ⇒ ""
    ∷ "CR213^" ⇒ "0003^"
    ∷ "#" ⇒ "" runs 1
    ∷ "CR213^" ⇒ "0002^"
    ∷ "#" ⇒ ""
    ∷ "#" ⇒ "" runs 1
    ∷ "CR213^" ⇒ "0001^"
    ∷ "#" ⇒ ""
    ∷ "CR206^" ⇒ "01^"
    ∷ "CR201^" ⇒ "82^"
    ∷ "CR212^" ⇒ "012^"
    ∷ "#" ⇒ "" runs 1
    ∷ "CR201^" ⇒ "80^"
    ∷ "CR203^" ⇒ "00^"
    ∷ "CR206^" ⇒ "00^"
    ∷ "CR213^" ⇒ "0000^"
    ∷ "CR211^" ⇒ "003^"
    ∷ "CR212^" ⇒ "011^"
    ∷ []
    )
    logs (
    0x1E ∷ 0xE2 ∷ 1 ∷ 1 ∷ 0 ∷ 0 ∷ 0 ∷ 0 ∷ 0 ∷ 0 ∷ 0 ∷ 1 ∷ 0 ∷ 0 ∷ 0 ∷ 0
    ∷ 0x1E ∷ 0xE2 ∷ 2 ∷ 0 ∷ 0 ∷ 0 ∷ 0 ∷ 6 ∷ 0 ∷ 0 ∷ 0 ∷ 1 ∷ 0 ∷ 0 ∷ 0 ∷ 0 ∷ []
    )
    -- "F 1 0399, N 1, end mark: 400 lines, event 011. With 0400: event 013."
    ∷ point ("CW000F10399^" ⇒ "OK^" ∷ "CW001N1^" ⇒ "OK^" ∷ "CW210003^" ⇒ "OK^" runs 400 ∷ "CR212^" ⇒ "011^" ∷ "CR211^" ⇒ "002^" ∷ [])
    ∷ point ("CW000F10400^" ⇒ "OK^" ∷ "CW001N1^" ⇒ "OK^" ∷ "CW210003^" ⇒ "OK^" runs 400 ∷ "CR212^" ⇒ "013^" ∷ "CR211^" ⇒ "001^" ∷ [])
    -- "a [32]-byte log after three changes: one record, then a gap of 2. After two: a gap of 1." The gap has the tick of the first change lost, and the
    -- word after the last.
    ∷ ("CW20601^" ⇒ "OK^" ∷ "#" ⇒ "" ∷ "CW20602^" ⇒ "OK^" ∷ "#" ⇒ "" ∷ "CW20603^" ⇒ "OK^" ∷ [])
    logs (
    0x1E ∷ 0xE2 ∷ 1 ∷ 255 ∷ 0 ∷ 0 ∷ 0 ∷ 0 ∷ 0 ∷ 0 ∷ 0 ∷ 1 ∷ 0 ∷ 0 ∷ 0 ∷ 0
    ∷ 0x1E ∷ 0xE2 ∷ 2 ∷ 0 ∷ 0 ∷ 0 ∷ 0 ∷ 1 ∷ 0 ∷ 0 ∷ 0 ∷ 2 ∷ 0 ∷ 0 ∷ 0 ∷ 3 ∷ []
    )
    ∷ ("CW20601^" ⇒ "OK^" ∷ "#" ⇒ "" ∷ "CW20602^" ⇒ "OK^" ∷ [])
    logs (
    0x1E ∷ 0xE2 ∷ 1 ∷ 255 ∷ 0 ∷ 0 ∷ 0 ∷ 0 ∷ 0 ∷ 0 ∷ 0 ∷ 1 ∷ 0 ∷ 0 ∷ 0 ∷ 0
    ∷ 0x1E ∷ 0xE2 ∷ 2 ∷ 0 ∷ 0 ∷ 0 ∷ 0 ∷ 1 ∷ 0 ∷ 0 ∷ 0 ∷ 1 ∷ 0 ∷ 0 ∷ 0 ∷ 2 ∷ []
    )
    -- "209 = 200 with 006 accepted; with 005, E004." 02, item 3: "The worked point's E004 with 005 becomes E023."
    ∷ ("CW200S00000000070000^" ⇒ "OK^" ∷ "CW209200^" ⇒ "OK^" ∷ "CW210006^" ⇒ "OK^" ∷ "CR206^" ⇒ "07^" ∷ [])
    logs (0x1E ∷ 0xE2 ∷ 1 ∷ 254 ∷ 0 ∷ 0 ∷ 0 ∷ 0 ∷ 0 ∷ 0 ∷ 0 ∷ 7 ∷ 0 ∷ 0 ∷ 0 ∷ 0 ∷ [])
    ∷ point ("CW209200^" ⇒ "OK^" ∷ "CW210005^" ⇒ "E023^" ∷ [])
    ∷ []
