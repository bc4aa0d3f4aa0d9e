-- 01, 'Variables', and 02, item 4, computed: every row of the table, the eight bytes of a line, bytes that are none, load and save.
use Rattle.std.specs.Prelude.{List, [], ◌∷◌, ◌++◌, ℕ}
use Rattle.controller.specs.Refusals.{power_on}
use Rattle.demands.specs.Exchanges.{Point, point, with_copy, ◌⇒◌, ◌⇒◌runs◌, try, holds, alters, times, end_mark, program, saved}
use Rattle.demands.specs.CallsTable.{lent}

abbrev pub eight : ℕ → ℕ → ℕ → ℕ → ℕ → ℕ → ℕ → ℕ → List ℕ
eight a b c d e f g h = a ∷ b ∷ c ∷ d ∷ e ∷ f ∷ g ∷ h ∷ []

-- Seven lines: State with time 9999 and with all outputs, For and Next with the first and the last counter, count 0 and 9999.
abbrev pub sound : List ℕ
sound =
    eight 0x53 0 1 2 3 4 0x27 0x0F
    ++ (eight 0x53 0 255 255 255 255 0 0
    ++ (eight 0x46 1 0 0 0 0 0 0
    ++ (eight 0x46 4 0x27 0x0F 0 0 0 0
    ++ (eight 0x4E 1 0 0 0 0 0 0
    ++ (eight 0x4E 4 0 0 0 0 0 0 ++ eight 0x53 0 0 0 0 5 1 0)))))

-- Twenty-four that are Bad: time or count 10,000, another first byte, a second that is not 00 or 1-4, a byte that must be 0.
abbrev pub bad : List ℕ
bad =
    eight 0x53 0 1 2 3 4 0x27 0x10
    ++ (eight 0x53 1 1 2 3 4 0 1
    ++ (eight 0x52 0 1 2 3 4 0 1
    ++ (eight 0x54 0 1 2 3 4 0 1
    ++ (eight 0x46 1 0x27 0x10 0 0 0 0
    ++ (eight 0x46 0 0 1 0 0 0 0
    ++ (eight 0x46 5 0 1 0 0 0 0
    ++ (eight 0x46 1 0 1 1 0 0 0
    ++ (eight 0x46 1 0 1 0 1 0 0
    ++ (eight 0x46 1 0 1 0 0 1 0
    ++ (eight 0x46 1 0 1 0 0 0 1
    ++ (eight 0x45 1 0 1 0 0 0 0
    ++ (eight 0x47 1 0 1 0 0 0 0
    ++ (eight 0x4E 0 0 0 0 0 0 0
    ++ (eight 0x4E 5 0 0 0 0 0 0
    ++ (eight 0x4E 1 1 0 0 0 0 0
    ++ (eight 0x4E 1 0 1 0 0 0 0
    ++ (eight 0x4E 1 0 0 1 0 0 0
    ++ (eight 0x4E 1 0 0 0 1 0 0
    ++ (eight 0x4E 1 0 0 0 0 1 0
    ++ (eight 0x4E 1 0 0 0 0 0 1
    ++ (eight 0x4D 1 0 0 0 0 0 0 ++ (eight 0x4F 1 0 0 0 0 0 0 ++ eight 0 0 0 0 0 0 0 0))))))))))))))))))))))

unfoldable pub variables : List Point
variables =
    -- at power-on: "200 [...] end mark with outputs 0 at power-on", "210 [...] 000 at first", "parameter 0", "event 012"
    point (
    "CR000^CR199^CR200^" ⇒ "S00000000000000^S00000000000000^S00000000000000^"
    ∷ "CR201^CR202^CR203^CR204^CR205^CR206^CR207^CR208^" ⇒ "80^00^00^00^00^00^00^000^"
    ∷ "CR209^CR210^CR211^CR212^CR213^CR214^CR215^CR216^" ⇒ "000^000^000^012^0000^0000^0000^0000^"
    -- "212 last event; reading it clears code and D7"
    ∷ "CR212^CR201^" ⇒ "000^00^"
    ∷ []
    )
    -- every variable with something in it, while a program runs and is paused; by I too 212 is read and cleared
    ∷ point (
    "CW010F10011^CWIF20022^CWIF30033^CWIF44444^CWIS00A1B2C3D40009^CWIN4^CWIN3^CWIN2^CWIN1^" ⇒ "OK^OK^OK^OK^OK^OK^OK^OK^OK^"
    ∷ "CW200S00000000070000^CW209010^CW210005^" ⇒ "OK^OK^OK^" runs 4
    ∷ "CR010^CR014^CR018^CR200^" ⇒ "F10011^S00A1B2C3D40009^N1^S00000000070000^"
    ∷ "CRI^CRI^CRI^CRI^CRI^CRI^CRI^CRI^" ⇒ "82^00^A1^B2^C3^D4^00^000^"
    ∷ "CRI^CRI^CRI^CRI^CRI^CRI^CRI^CRI^" ⇒ "010^005^014^012^0011^0022^0033^4444^"
    ∷ "CR201^CR212^%CR201^CR202^CR207^CR208^" ⇒ "02^000^03^00^00^000^"
    ∷ "%########CR216^" ⇒ "4444^"
    ∷ "#" ⇒ "" runs 1
    ∷ "CR213^CR214^CR215^CR216^CR211^" ⇒ "0011^0022^0033^4443^014^"
    -- "Stop frees the loops and keeps outputs and line."
    ∷ "CW210001^CR213^CR214^CR215^CR216^CR211^CR203^CR204^CR205^CR206^CR201^CR212^" ⇒ "OK^0000^0000^0000^0000^014^A1^B2^C3^D4^00^000^"
    -- "Power-on: outputs 0, stopped, line 000, parameter 0"; what was collected is gone
    ∷ "CR2" ⇒ ""
    ∷ try power_on (lent 1600 1600 32 0) 0
    ∷ "^CR201^CR202^CR203^CR204^CR205^CR206^CR207^CR208^" ⇒ "E001^80^00^00^00^00^00^00^000^"
    ∷ "CR209^CR210^CR211^CR212^CR213^CR214^CR215^CR216^CR200^CR010^" ⇒ "000^000^000^012^0000^0000^0000^0000^S00000000000000^S00000000000000^"
    -- 02, item 7: the last address written is before 000 again
    ∷ "CWIN1^CR000^CR001^" ⇒ "OK^N1^S00000000000000^"
    ∷ []
    )
    -- "203-206 outputs 32-25, 24-17, 16-9, 8-1"; "A write to 203-206 alters its eight bits of the output word and no other bit."
    ∷ point (
    "CW203A1^CW204B2^CW205C3^CW206D4^CR203^CR204^CR205^CR206^" ⇒ "OK^OK^OK^OK^A1^B2^C3^D4^"
    ∷ "CW20300^CR203^CR204^CR205^CR206^" ⇒ "OK^00^B2^C3^D4^"
    ∷ "CW2040F^CR203^CR204^CR205^CR206^" ⇒ "OK^00^0F^C3^D4^"
    ∷ "CW20500^CR203^CR204^CR205^CR206^" ⇒ "OK^00^0F^00^D4^"
    ∷ "CW206FF^CR203^CR204^CR205^CR206^" ⇒ "OK^00^0F^00^FF^"
    -- "State: 53 00 X4 X3 X2 X1": X4 is the byte of 203
    ∷ "CW200S00123456780001^CW209200^CW210006^CR203^CR204^CR205^CR206^" ⇒ "OK^OK^OK^12^34^56^78^"
    ∷ []
    )
    -- "A line is 8 bytes. [...] high byte first": each in its place, and no other byte alters
    ∷ point (
    "CW000S00123456789876^CW001F29999^CW198F40258^CW199N3^CW200N2^" ⇒ "OK^OK^OK^OK^OK^"
    ∷ holds program 0 (eight 0x53 0 0x12 0x34 0x56 0x78 0x26 0x94 ++ (eight 0x46 2 0x27 0x0F 0 0 0 0 ++ times 2 end_mark))
    ∷ holds program 1576 (end_mark ++ (eight 0x46 4 1 2 0 0 0 0 ++ eight 0x4E 3 0 0 0 0 0 0))
    ∷ holds saved 0 end_mark
    ∷ "CR000^CR001^CR198^CR199^CR200^" ⇒ "S00123456789876^F29999^F40258^N3^N2^"
    ∷ []
    )
    -- power-on and command 007 load the saved copy, and "Load and save copy the bytes unaltered"; the copy stays as it was
    ∷ with_copy 31 (sound ++ bad) (
    holds program 0 (sound ++ (bad ++ end_mark))
    ∷ holds program 1592 end_mark
    ∷ holds saved 0 (sound ++ bad)
    ∷ "CR000^CRI^CRI^CRI^CRI^CRI^CRI^CRI^" ⇒ "S00010203049999^S00FFFFFFFF0000^F10000^F49999^N1^N4^S00000000050256^E024^"
    ∷ "CW000N2^CW007N2^CW199N2^CW200N3^CW20655^CW209007^CW210007^" ⇒ "OK^OK^OK^OK^OK^OK^OK^"
    ∷ holds program 0 (sound ++ (bad ++ end_mark))
    ∷ holds program 1592 end_mark
    ∷ holds saved 0 (sound ++ bad)
    -- lines 000-199, and nothing else
    ∷ "CR200^CR206^CR209^CR210^CR211^CR212^" ⇒ "N3^55^007^007^000^012^"
    ∷ []
    )
    -- "Reading eight bytes now answers State, For, Next or Bad": each of the twenty-four is E024, and none of the lines beside them is
    ∷ point (
    alters program 0 bad
    ∷ alters program 1592 (eight 0x46 3 0 7 0 0 0 0)
    ∷ "CR000^CR001^CR002^CR003^CR004^CR005^CR006^CR007^CR008^CR009^" ⇒ "E024^E024^E024^E024^E024^E024^E024^E024^E024^E024^"
    ∷ "CR010^CR011^CR012^CR013^CR014^CR015^CR016^CR017^CR018^CR019^" ⇒ "E024^E024^E024^E024^E024^E024^E024^E024^E024^E024^"
    ∷ "CR020^CR021^CR022^CR023^" ⇒ "E024^E024^E024^E024^"
    ∷ "CR024^CR199^CR200^" ⇒ "S00000000000000^F30007^S00000000000000^"
    -- "Executing one by 006 does nothing and answers OK": 210 takes it, and outputs, line and event stay
    ∷ "CW20655^CW210006^CR206^CR210^CR211^CR212^" ⇒ "OK^OK^55^006^000^012^"
    -- "Running a Bad line stops with event 014 at that line"
    ∷ "CW209023^CW210005^CR206^CR211^CR201^CR212^" ⇒ "OK^OK^55^023^80^014^"
    -- the bytes are saved as they are, and come back so
    ∷ "CW210008^CR210^" ⇒ "OK^008^"
    ∷ holds program 0 bad
    ∷ holds program 1592 (eight 0x46 3 0 7 0 0 0 0)
    ∷ holds saved 0 (bad ++ end_mark)
    ∷ holds saved 1592 (eight 0x46 3 0 7 0 0 0 0)
    ∷ "CW000N1^CW199N2^CW210008^CW000N3^CW199N4^CW210007^CR000^CR199^" ⇒ "OK^OK^OK^OK^OK^OK^N1^N2^"
    ∷ []
    )
    ∷ []
